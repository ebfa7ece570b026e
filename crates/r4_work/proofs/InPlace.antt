-- A working set with one more change in place.
use Rattle.std.specs.Prelude.{◌≡◌, ℕ, ◌<◌, ◌≤◌, Bool, Contains, None, Option, Some}
use mathlib.Core.Path.{refl, sym, subst}
use mathlib.Core.Logic.{inl, inr}
use native.Mathlib.Omega.{arith}
use Rattle.std.specs.Option.{option_map, unwrap_or}
use Rattle.r4_base.specs.Tree.{Node, Root, Store}
use Rattle.r4_base.specs.Value.{Value}
use Rattle.r4_base.proofs.Trees.{not_both}
use Rattle.r4_edit.specs.r4_cell.Patch.{NamesId, Patch, by_name, place, root_of_pair}
use Rattle.r4_edit.specs.r4_cell.Seen.{CellSeen, node_of}
use Rattle.r4_edit.specs.r4_cell.declared.change.Change.{Change}
use Rattle.r4_edit.specs.r4_cell.declared.change.Fresh.{Fresh}
use Rattle.r4_edit.specs.r4_cell.declared.change.Root.{Root as RootPair}
use Rattle.r4_edit.specs.r4_patch.Joining.{ids_of, patch_of_change}
use Rattle.r4_edit.specs.r4_patch.Part.{IsPart}
use Rattle.r4_edit.proofs.r4_patch.Placed.{over_from, over_kept, over_new, placed_part, some_or_none}
use Rattle.r4_edit.specs.r4_path.Nodes.{IsPointable}
use Rattle.r4_edit.specs.r4_path.Steps.{IsFree}
use Rattle.r4_edit.proofs.r4_patch.Members.{distinct, found, there}
use Rattle.std.proofs.lemmas.List.Elements.{Contains-append_cases}
use Rattle.std.proofs.lemmas.List.Sorted.{Contains-permutation, IsPermutation-sym}
use Rattle.r4_edit.specs.r4_patch.Effect.{HasEffect, Placed, either, later}
use Rattle.r4_edit.specs.r4_patch.Following.{AreInTurn}
use Rattle.r4_work.specs.Working.{IsNextEdit, IsPutInPlace, IsWorking, now_of, root_of, standing}
use Rattle.r4_work.specs.declared.working.WorkingSet.{WorkingSet}
use Rattle.r4_edit.proofs.r4_patch.Effects.{effects_follow}
use Rattle.r4_edit.proofs.r4_patch.Followed.{followed_cells, followed_change, followed_meets, followed_root, followed_same, in_without, none_by_name}

root_pair_number : (o : Option RootPair) (r : Root) → IsPointable r.id → ((x : RootPair) → o ≡ Some x → IsPointable x.id.0) → IsPointable (unwrap_or (option_map root_of_pair o) r).id
root_pair_number None r was new = was
root_pair_number (Some x) r was new = new x refl

module _ (t : Store Value) (r : Root) (w now : WorkingSet) (before after : Fresh) (d : Change) (is : IsWorking t r before w) (edit : IsNextEdit t r w before after d) (put : IsPutInPlace w d now) where
  abbrev q : Patch Value
  q = patch_of_change d

  abbrev s : Store Value
  s = now_of w t

  pub turn : AreInTurn w.change d t r
  turn = record { part = is.part; one_is = is.change; one_meets = is.meets; two_is = edit.change; two_meets = edit.meets }

  cells : now_of now t ≡ place q s
  cells = followed_cells w.change d now.change t r turn put.followed

  still : (c : CellSeen) → Contains now.kept c → place q s c.id ≡ Some (node_of c)
  still c at =
      let (in_kept, out) = in_without (ids_of d.old) w.kept c (subst (λ xs. Contains xs c) put.kept at) in
      let there = is.kept c in_kept in
      let gone = none_by_name d.old c.id out in
      over_kept (q.new c.id) (q.old c.id) (s c.id) (node_of c) (λ e h. not_both s c.id (node_of c) (edit.meets.meets.free c.id e h gone) there) gone there

  -- a new cell has no number that is still fresh
  no_new : (i : ℕ) (c : Node Value) → after.next ≤ i → i < after.end → q.new i ≡ Some c → ⊥
  no_new i c low high nc =
      let takes = edit.takes in
      let (x, at, id, _) = found d.new i c nc in
      elim (some_or_none (q.old i)) [
        | inl o ↦ not_both s i o.0 (is.free.cells i (omega (arith, takes, low)) (omega (arith, takes, high))) (edit.meets.meets.has_old i o.0 o.1)
        | inr gone ↦ let less = edit.names x at (subst (λ n. q.old n ≡ None) (sym id) gone) in omega (arith, less, id, low)
      ]

  free_cells : (i : ℕ) → after.next ≤ i → i < after.end → place q s i ≡ None
  free_cells i low high = elim (some_or_none (place q s i)) [
    | inr none ↦ none
    | inl h ↦ absurd (elim (over_from (q.new i) (q.old i) (s i) h.0 h.1) [
      | inl nc ↦ no_new i h.0 low high nc
      | inr u ↦ let takes = edit.takes in not_both s i h.0 (is.free.cells i (omega (arith, takes, low)) (omega (arith, takes, high))) u.2
    ])
  ]

  free_names : (i : ℕ) → after.next ≤ i → i < after.end → NamesId (place q s) i → ⊥
  free_names i low high (n, (j, c, wj, cn), e) =
      let takes = edit.takes in
      let was : NamesId s i → ⊥ = is.free.names i (omega (arith, takes, low)) (omega (arith, takes, high)) in
      elim (over_from (q.new j) (q.old j) (s j) c wj) [
        | inr u ↦ was (n, (j, c, u.2, cn), e)
        | inl nc ↦ elim (edit.change.patch.named n (j, c, nc, cn)) [
          | inl g ↦ no_new i g.0 low high (subst (λ x. q.new x ≡ Some g.0) e g.1)
          | inr g ↦ let (a, o, oa, on) = g.1 in was (n, (a, o, edit.meets.meets.has_old a o oa, on), e)
        ]
      ]

  pub now_working : IsWorking t r after now
  now_working = record {
    part = is.part;
    change = followed_change w.change d now.change t r turn put.followed;
    meets = followed_meets w.change d now.change t r turn put.followed;
    made = put.made;
    kept = λ c at. subst (λ (u : Store Value). u c.id ≡ Some (node_of c)) (sym cells) (still c at);
    free = subst (λ (u : Store Value). IsFree after.next after.end u) (sym cells) (record { cells = free_cells; names = free_names });
    root_number = subst (λ (x : Root). IsPointable x.id) (sym (followed_root w.change d now.change t r turn put.followed)) (root_pair_number d.root (root_of w r) is.root_number edit.root);
  }

  pub now_effect : (a b : ℕ → Bool) (f g : ℕ → Option (Placed Value)) → HasEffect (patch_of_change w.change) a f → HasEffect q b g → HasEffect (patch_of_change now.change) (either a b) (later b g f)
  now_effect a b f g ew ed = subst (λ (x : Patch Value). HasEffect x (either a b) (later b g f)) (sym (followed_same w.change d now.change t r turn put.followed)) (effects_follow (patch_of_change w.change) q t r is.part is.change.patch is.meets edit.change.patch edit.meets a b f g ew ed)

-- ---- what stands

pub now_part : (t : Store Value) (r : Root) (fresh : Fresh) (w : WorkingSet) → IsWorking t r fresh w → IsPart (now_of w t) (root_of w r)
now_part t r fresh w is = placed_part (patch_of_change w.change) t r is.change.patch is.part is.meets.meets is.meets.unnamed

pub standing_is : (t : Store Value) (r : Root) (fresh : Fresh) (w : WorkingSet) → IsWorking t r fresh w → (c : CellSeen) → Contains (standing w) c → now_of w t c.id ≡ Some (node_of c)
standing_is t r fresh w is c at = elim (Contains-append_cases w.made w.kept c at) [
  | inr kept ↦ is.kept c kept
  | inl made ↦
      let new = Contains-permutation w.made w.change.new c (IsPermutation-sym w.change.new w.made is.made) made in
      over_new (by_name w.change.new c.id) (by_name w.change.old c.id) (t c.id) (node_of c)
      (there w.change.new c (distinct w.change.new is.change.new_names) new)
]
