-- What the cells of a task are once they are gathered below one twig, and the change that is made of them then.
use Rattle.std.proofs.Common.{◌≡◌, ◌⊎◌, inl, inr, ℕ, ◌≤◌, ◌<◌, Bool, true, false, List, [], ◌∷◌, Option, Some, None, refl, sym, ap, subst, ◌∙◌, arith, cond}
use Rattle.std.specs.Prelude.{◌↔◌, Contains}
use Rattle.std.proofs.lemmas.List.Elements.{Contains-append_cases, Contains-append_left, Contains-append_right}
use Rattle.std.proofs.lemmas.Option.{same_Some}
use Rattle.r4_base.specs.Tree.{IsTree, Node, Root, Store}
use Rattle.r4_base.specs.Value.{Value}
use Rattle.r4_base.proofs.Trees.{not_both}
use Rattle.r4_put_tasks.specs.r4_build.Built.{IsTaskIn}
use Rattle.r4_put_tasks.specs.r4_build.declared.task.Task.{Task}
use Rattle.r4_put_tasks.specs.r4_build.r4_measure.Budget.{AreSeen}
use Rattle.r4_put_tasks.specs.r4_build.r4_measure.r4_cell.Patch.{NamesId, Patch, join, place, root_after, root_of_pair}
use Rattle.r4_put_tasks.specs.r4_build.r4_measure.r4_cell.Seen.{CellSeen, node_of}
use Rattle.r4_put_tasks.specs.r4_build.r4_measure.r4_cell.declared.change.Change.{Change}
use Rattle.r4_put_tasks.specs.r4_build.r4_measure.r4_cell.declared.change.Fresh.{Fresh}
use Rattle.r4_put_tasks.specs.r4_build.r4_measure.r4_work.Working.{AreCellsIn}
use Rattle.r4_put_tasks.specs.r4_build.r4_patch.Effect.{HasEffect, Placed, UnitIn, either, later}
use Rattle.r4_put_tasks.specs.r4_build.r4_patch.Following.{AreInTurn, IsFollowed, is_among, without}
use Rattle.r4_put_tasks.specs.r4_build.r4_patch.Joining.{ids_of, patch_of_change}
use Rattle.r4_put_tasks.specs.r4_build.r4_patch.Part.{IsPart, MeetsPart}
use Rattle.r4_put_tasks.specs.r4_build.r4_path.Steps.{IsFree}
use Rattle.r4_put_tasks.proofs.r4_build.r4_patch.Effects.{effects_follow}
use Rattle.r4_put_tasks.proofs.r4_build.r4_patch.Followed.{followed_change, followed_meets, followed_same, in_without}
use Rattle.r4_put_tasks.proofs.r4_build.r4_patch.LeftOut.{among_contained}
use Rattle.r4_put_tasks.proofs.r4_build.r4_patch.Members.{found}
use Rattle.r4_put_tasks.proofs.r4_build.r4_patch.PartCells.{tree_is_part}
use Rattle.r4_put_tasks.proofs.r4_build.r4_patch.Placed.{over_from, over_new, placed_tree, some_or_none}
use Rattle.r4_row_gather.specs.Gathering.{IsStill, StaysStill}
use Rattle.r4_row_gather.specs.declared.gathering.Gathered.{Gathered}
use Rattle.r4_row_gather.proofs.Numbers.{from_cells, new_number, second_number}
use Rattle.r4_row_gather.proofs.Still.{alone, had, kept_node, meets, part_now, root_stays, stand_now, still, within}
use Rattle.r4_made.specs.Gathering.{IsGatheredFor}
use Rattle.r4_made.specs.Making.{DoesAs, IsMadeIn, IsMadeOf, StandFor, over}

module _ (cells : List CellSeen) (x : Gathered) (h : StaysStill cells x) where
  module _ (t : Store Value) (r : Root) (part : IsPart t r)
      (stand : (c : CellSeen) → Contains cells c → t c.id ≡ Some (node_of c)) where
    abbrev g : Change
    g = x.change

    abbrev q : Patch Value
    q = patch_of_change g

    abbrev after : Store Value
    after = place q t

    remains : IsStill t r g
    remains = still cells x h t r part stand

    seen_now : AreSeen t → AreSeen after
    seen_now seen i c is = elim (over_from (q.new i) (q.old i) (t i) c is) [
      | inl new ↦ let (x, at, id, same) = found g.new i c new in (x, same)
      | inr was ↦ seen i c was.2
    ]

    -- numbers that were free are free
    module _ (low high : ℕ) (free : IsFree low high t) where
      no_new : (i : ℕ) (c : Node Value) → low ≤ i → i < high → q.new i ≡ Some c → ⊥
      no_new i c from_low below new =
          let (z, at, id, same) = found g.new i c new in
          let (y, old, is) = had cells x h z at in
          not_both t i (node_of y) (free.cells i from_low below)
          (subst (λ j. t j ≡ Some (node_of y)) (is ∙ id) (stand y (h.old y old)))

      free_cells : (i : ℕ) → low ≤ i → i < high → after i ≡ None
      free_cells i from_low below = elim (some_or_none (after i)) [
        | inr none ↦ none
        | inl (c, is) ↦ absurd (elim (over_from (q.new i) (q.old i) (t i) c is) [
          | inl new ↦ no_new i c from_low below new
          | inr was ↦ not_both t i c (free.cells i from_low below) was.2
        ])
      ]

      free_names : (i : ℕ) → low ≤ i → i < high → NamesId after i → ⊥
      free_names i from_low below (n, (j, c, is, has), e) = elim (over_from (q.new j) (q.old j) (t j) c is) [
        | inr was ↦ free.names i from_low below (n, (j, c, was.2, has), e)
        | inl new ↦ elim (remains.change.patch.named n (j, c, new, has)) [
          | inl own ↦ no_new i own.0 from_low below (subst (λ x. q.new x ≡ Some own.0) e own.1)
          | inr old ↦ let (a, o, is_old, named) = old.1 in
              free.names i from_low below (n, (a, o, remains.meets.meets.has_old a o is_old, named), e)
        ]
      ]

      free_now : IsFree low high after
      free_now = record { cells = free_cells; names = free_names }

    units_now : (k : ℕ) (w : Placed Value) → UnitIn after k w ↔ UnitIn t k w
    units_now k w = (to_old, to_new)
      where
        to_old : UnitIn after k w → UnitIn t k w
        to_old (i, c, is, has, kind) = elim (over_from (q.new i) (q.old i) (t i) c is) [
          | inr was ↦ (i, c, was.2, has, kind)
          | inl new ↦
              let (j, d, old, had_unit, same) = (remains.effect.others k w refl).0 (i, c, new, has, kind) in
              (j, d, remains.meets.meets.has_old j d old, had_unit, same)
        ]

        from_new : UnitIn q.new k w → UnitIn after k w
        from_new (i, c, new, has, kind) = (i, c, over_new (q.new i) (q.old i) (t i) c new, has, kind)

        to_new : UnitIn t k w → UnitIn after k w
        to_new (i, c, is, has, kind) = elim (some_or_none (q.old i)) [
          | inr gone ↦ (i, c, kept_node cells x h t r part stand i c is gone, has, kind)
          | inl (d, old) ↦
              let same : d ≡ c = same_Some d c (sym (remains.meets.meets.has_old i d old) ∙ is) in
              from_new ((remains.effect.others k w refl).1 (i, c, subst (λ x. q.old i ≡ Some x) same old, has, kind))
        ]

    cells_now : (f : Fresh) → AreCellsIn t r f cells → AreCellsIn after r f x.cells
    cells_now f is = record {
      part = part_now cells x h t r part stand;
      stand = stand_now cells x h t r part stand;
      free = free_now f.next f.end is.free;
      root_number = is.root_number;
    }

module _ (task : Task) (x : Gathered) (gathered : IsGatheredFor task x) where
  abbrev h : StaysStill task.writes x
  h = gathered.are.stays

  abbrev gathers : Change
  gathers = x.change

  abbrev stood : List CellSeen
  stood = x.cells

  abbrev one : Patch Value
  one = patch_of_change gathers

  -- ---- the task may be built over these cells

  module _ (spread : task.scope.in_leaves ≡ false) (t : Store Value) (r : Root) (is : IsTaskIn t r task) where
    in_no_leaves : (X : Type 0) → task.scope.in_leaves ≡ true → X
    in_no_leaves X inside = absurd (let f : true ≡ false = sym inside ∙ spread in cc)

    pub built_over : IsTaskIn (place one t) r (over task stood)
    built_over = record {
      root = is.root;
      height = is.height;
      seen = seen_now task.writes x h t r is.cells_in.part is.cells_in.stand is.seen;
      cells_in = cells_now task.writes x h t r is.cells_in.part is.cells_in.stand task.fresh is.cells_in;
      names = h.names t r (within task.writes x h t r is.cells_in.part is.cells_in.stand) is.names;
      unplaced = is.unplaced;
      numbers = let n = is.numbers in let fewer = gathered.few in omega (arith, n, fewer);
      leaves = λ inside. in_no_leaves _ inside;
      few = λ inside. in_no_leaves _ inside;
    }

  -- ---- they stand for those that it writes

  pub stand_for : StandFor task stood
  stand_for u root raw n where_done =
      let part = tree_is_part u root where_done.tree in
      let there : (c : CellSeen) → Contains task.writes c → u c.id ≡ Some (node_of c) =
      λ c has. where_done.there.stand c (Contains-append_right task.reads task.writes c has) in
      record {
        store = place one u;
        root = root;
        tree = subst (IsTree (place one u)) (root_stays task.writes x h u root part there)
            (placed_tree one u root (still task.writes x h u root part there).change.patch where_done.tree
            (meets task.writes x h u root part there).meets);
        units = units_now task.writes x h u root part there;
        stand = stand_now task.writes x h u root part there;
      }

  -- ---- what is made of them then

  module _ (d c : Change) (m : IsMadeIn task stood d) (f : IsFollowed gathers d c) (spread : task.scope.in_leaves ≡ false) where
    module _ (t : Store Value) (r : Root) (is : IsTaskIn t r task) where
      kept : IsStill t r gathers
      kept = still task.writes x h t r is.cells_in.part is.cells_in.stand

      first : MeetsPart one t r
      first = meets task.writes x h t r is.cells_in.part is.cells_in.stand

      second : MeetsPart (patch_of_change d) (place one t) (root_after one r)
      second = subst (λ x. MeetsPart (patch_of_change d) (place one t) x)
          (sym (root_stays task.writes x h t r is.cells_in.part is.cells_in.stand))
          (m.meets (place one t) r (built_over spread t r is))

      in_turn : AreInTurn gathers d t r
      in_turn = record {
        part = is.cells_in.part;
        one_is = kept.change;
        one_meets = first;
        two_is = m.change;
        two_meets = second;
      }

      does : DoesAs d c
      does at to effect = subst (λ (p : Patch Value). HasEffect p at to) (sym (followed_same gathers d c t r in_turn f))
          (alone (join one (patch_of_change d)) at to
          (effects_follow one (patch_of_change d) t r is.cells_in.part kept.change.patch first m.change.patch second
          (λ k. false) at (λ k. None) to kept.effect effect))

    numbered : (y : CellSeen) → Contains c.new y
        → Contains (ids_of c.old) y.id ⊎ ((task.fresh.next ≤ y.id) × (y.id < task.fresh.end))
    numbered y at = elim (Contains-append_cases d.new (without (ids_of d.old) gathers.new) y
        (subst (λ xs. Contains xs y) f.new at)) [
          | inr rest ↦ inl (new_number task.writes x h d c f m.old y (in_without (ids_of d.old) gathers.new y rest).0)
          | inl own ↦ elim (m.new y own) [
            | inl old ↦ inl (second_number task.writes x h d c f m.old y.id (among_contained (ids_of d.old) y.id old))
            | inr fresh ↦ inr fresh
          ]
        ]

    pub made_of_both : (t : Store Value) (r : Root) → IsTaskIn t r task → IsMadeOf task c
    made_of_both t r is = record {
      change = followed_change gathers d c t r (in_turn t r is) f;
      move = m.move stand_for c (does t r is);
      meets = λ t' r' is'. followed_meets gathers d c t' r' (in_turn t' r' is') f;
      old = from_cells task.writes x h d c f m.old;
      new = numbered;
    }
