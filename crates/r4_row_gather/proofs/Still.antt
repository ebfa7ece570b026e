-- Cells that stand once a change without effect is made of some.
use Rattle.std.proofs.Common.{◌≡◌, ◌⊎◌, inl, inr, ℕ, false, List, Option, Some, None, sym, ap, subst, refl, ◌∙◌, cond, Bool, true}
use Rattle.std.specs.Prelude.{◌↔◌, Contains, unwrap_or}
use Rattle.std.specs.Option.{option_map}
use Rattle.std.proofs.lemmas.List.Elements.{Contains-append_cases}
use Rattle.r4_base.specs.Tree.{Node, Root, Store}
use Rattle.r4_base.specs.Value.{Value}
use Rattle.r4_base.proofs.Trees.{not_both}
use Rattle.r4_work.specs.r4_cell.Patch.{Patch, place, root_after, root_of_pair}
use Rattle.r4_work.specs.r4_cell.Seen.{CellSeen, node_of}
use Rattle.r4_work.specs.r4_cell.declared.change.Change.{Change}
use Rattle.r4_work.specs.r4_patch.Effect.{HasEffect, Placed, UnitIn, either, later}
use Rattle.r4_work.specs.r4_patch.Following.{is_among, without}
use Rattle.r4_work.specs.r4_patch.Joining.{ids_of, patch_of_change}
use Rattle.r4_work.specs.r4_patch.Part.{IsPart, MeetsPart}
use Rattle.r4_work.proofs.r4_patch.Followed.{cell_among, in_without, none_by_name}
use Rattle.r4_work.proofs.r4_patch.LeftOut.{among_contained}
use Rattle.r4_work.proofs.r4_patch.Members.{distinct, there}
use Rattle.r4_work.proofs.r4_patch.Placed.{over_kept, over_new, placed_part}
use Rattle.r4_row_gather.specs.Gathering.{IsStill, StandIn, StaysStill}
use Rattle.r4_row_gather.specs.declared.gathering.Gathered.{Gathered}

module _ (cells : List CellSeen) (x : Gathered) (h : StaysStill cells x) where
  abbrev pub g : Change
  g = x.change

  abbrev pub q : Patch Value
  q = patch_of_change g

  -- a new cell has the number of an old one
  pub had : (c : CellSeen) → Contains g.new c → (y : CellSeen) × Contains g.old y × (y.id ≡ c.id)
  had c at = cell_among g.old c.id (among_contained (ids_of g.old) c.id (h.new c at))

  -- what stands then is one of the cells that does not go, or comes
  pub either_stands : (c : CellSeen) → Contains x.cells c
      → (Contains cells c × (is_among (ids_of g.old) c.id ≡ false)) ⊎ Contains g.new c
  either_stands c at = elim (Contains-append_cases g.new (without (ids_of g.old) cells) c
      (subst (λ xs. Contains xs c) h.stand at)) [
        | inl new ↦ inr new
        | inr was ↦ inl (in_without (ids_of g.old) cells c was)
      ]

  module _ (t : Store Value) (r : Root) (part : IsPart t r)
      (stand : (c : CellSeen) → Contains cells c → t c.id ≡ Some (node_of c)) where
    abbrev pub now : Store Value
    now = place q t

    pub within : StandIn t r cells
    within = record { part = part; stand = stand }

    pub still : IsStill t r g
    still = h.still t r within

    pub meets : MeetsPart q t r
    meets = still.meets

    pub root_stays : root_after q r ≡ r
    root_stays = ap (λ o. unwrap_or (option_map root_of_pair o) r) h.root

    pub part_now : IsPart now r
    part_now = subst (IsPart now) root_stays (placed_part q t r still.change.patch part meets.meets meets.unnamed)

    pub kept_node : (i : ℕ) (c : Node Value) → t i ≡ Some c → q.old i ≡ None → now i ≡ Some c
    kept_node i c is gone =
        over_kept (q.new i) (q.old i) (t i) c (λ d e. not_both t i c (meets.meets.free i d e gone) is) gone is

    pub stand_now : (c : CellSeen) → Contains x.cells c → now c.id ≡ Some (node_of c)
    stand_now c at = elim (either_stands c at) [
      | inl (was, out) ↦ kept_node c.id (node_of c) (stand c was) (none_by_name g.old c.id out)
      | inr new ↦ over_new (q.new c.id) (q.old c.id) (t c.id) (node_of c)
          (there g.new c (distinct g.new still.change.new_names) new)
    ]

-- an effect behind none is that effect
pub alone : (p : Patch Value) (at : ℕ → Bool) (to : ℕ → Option (Placed Value))
    → HasEffect p (either (λ k. false) at) (later at to (λ k. None)) → HasEffect p at to
alone p at to e = record {
  held = e.held;
  there = λ k w on. subst (λ (o : Option (Placed Value)). UnitIn p.new k w ↔ (o ≡ Some w))
      (ap (λ (t : Bool). cond t (to k) None) on) (e.there k w on);
  others = e.others;
}
