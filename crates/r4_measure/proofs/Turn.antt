-- A leaf at its turn.
use Rattle.std.proofs.Common.{◌≡◌, ◌⊎◌, inl, inr, ℕ, ◌+◌, ◌^◌, ◌<◌, ◌≤◌, List, ◌∷◌, subst, arith}
use Rattle.std.specs.Prelude.{Contains, None}
use Rattle.std.proofs.lemmas.Bool.{cases_lt}
use Rattle.r4_reach.specs.r4_cell.Patch.{IsChange, over, place, root_after}
use Rattle.r4_reach.specs.r4_cell.declared.change.Change.{Change}
use Rattle.r4_reach.specs.r4_patch.Joining.{ids_of, patch_of_change}
use Rattle.r4_reach.specs.r4_patch.Part.{IsPart, MeetsPart}
use Rattle.r4_work.specs.r4_edit.Editing.{Edits}
use Rattle.r4_reach.specs.r4_path.Steps.{Ascends, OnlyTakes}
use Rattle.r4_work.specs.Working.{IsPutInPlace, IsWorking}
use Rattle.r4_work.proofs.Paths.{path_ascends}
use Rattle.r4_measure.specs.Budget.{AreSeen, IsBudget, IsFresh}
use Rattle.r4_measure.proofs.OldCells.{old_stands}
use Rattle.r4_measure.proofs.Kept.{budget_kept, height_kept, seen_kept}
use Rattle.r4_measure.proofs.Placed.{placed_few, placed_measured, placed_root}
use Rattle.r4_base.specs.Tree.{Root, Store}
use Rattle.r4_base.specs.Value.{Value}
use Rattle.r4_reach.specs.r4_cell.Seen.{CellSeen}
use Rattle.r4_reach.specs.r4_cell.declared.change.Fresh.{Fresh}
use Rattle.r4_reach.specs.r4_leaf.Units.{LeafUnit, leaf_bytes}
use Rattle.r4_work.specs.r4_edit.Editing.{extra_cells}
use Rattle.r4_reach.specs.r4_path.Levels.{IsLongEnough}
use Rattle.r4_work.specs.Working.{now_of, path_of, root_of, standing}
use Rattle.r4_work.specs.declared.working.WorkingSet.{WorkingSet}
use Rattle.r4_work.proofs.InPlace.{now_part, standing_is}
use Rattle.r4_work.proofs.Paths.{lowest_is, ups_from}
use Rattle.r4_measure.specs.Budget.{Budget, most_from}
use Rattle.r4_measure.specs.Measured.{IsMeasured}
use Rattle.r4_measure.proofs.Suffices.{long_enough}

module _ (t : Store Value) (r : Root) (fresh : Fresh) (w : WorkingSet) (b : Budget) (is : IsMeasured t r fresh w b) (key : ℕ) (leaf : CellSeen) (ups : List CellSeen) (path : path_of w key ≡ leaf ∷ ups) where
  pub turn_enough : (us : List LeafUnit) → extra_cells us ≤ b 1 leaf.id → (leaf_bytes us ≤ 4068) ⊎ IsLongEnough (root_of w r) (extra_cells us) leaf ups
  turn_enough us fits = elim (cases_lt 4068 (leaf_bytes us)) [
    | inr room ↦ inl room
    | inl over ↦
        let some : 1 ≤ extra_cells us = omega (arith, over) in
        let h = long_enough (now_of w t) (root_of w r) (now_part t r fresh w is.working) b is.budget (standing w) (standing_is t r fresh w is.working) is.height is.kept key 7 1 leaf (extra_cells us) (lowest_is (standing w) key leaf ups path) (omega arith) (omega arith) some fits in
        inr (subst (λ cells. IsLongEnough (root_of w r) (extra_cells us) leaf cells) (ups_from 7 (standing w) 1 key leaf ups path) h)
  ]

  module _ (now : WorkingSet) (after : Fresh) (us : List LeafUnit) (d : Change) (fits : extra_cells us ≤ b 1 leaf.id) (unplaced : 2 ^ 63 ≤ fresh.next) (high : fresh.end < 2 ^ 64) (takes : OnlyTakes fresh after) (change : IsChange d.old d.new d.root)
      (meets : MeetsPart (patch_of_change d) (now_of w t) (root_of w r)) (e : Edits leaf ups us fresh after d) (put : IsPutInPlace w d now) (working : IsWorking t r after now) where
    abbrev s : Store Value
    s = now_of w t

    abbrev root : Root
    root = root_of w r

    part : IsPart s root
    part = now_part t r fresh w is.working

    ascends : Ascends s None (leaf ∷ ups)
    ascends = subst (Ascends s None) path (path_ascends s root part (standing w) (standing_is t r fresh w is.working) key)

    leaf_level : leaf.level ≡ 1
    leaf_level = (lowest_is (standing w) key leaf ups path).level_is

    Left : Type 0
    Left = (left : Budget) × IsBudget (place (patch_of_change d) s) (root_after (patch_of_change d) root) left × ((l i : ℕ) → (Contains (ids_of d.new) i → ⊥) → left l i ≡ b l i) × ((l i : ℕ) → (IsFresh fresh i → ⊥) → left l i ≤ b l i)
        × (most_from left (root_after (patch_of_change d) root) d.new ≤ most_from b root d.old) × (b root.height root.id ≡ 0 → (root_after (patch_of_change d) root ≡ root) × (left root.height root.id ≡ 0))

    left : Left
    unfolding Left
    left = budget_kept s root part is.seen fresh after is.working.free unplaced high takes is.working.root_number b is.budget us leaf ups d leaf_level ascends (turn_enough us fits) (inr fits) e

    seen2 : AreSeen (place (patch_of_change d) s)
    seen2 = seen_kept s root part is.seen fresh after is.working.free unplaced high takes is.working.root_number b is.budget us leaf ups d leaf_level ascends (turn_enough us fits) (inr fits) e

    height2 : (root_after (patch_of_change d) root).height ≤ 8
    height2 = height_kept s root part is.seen fresh after is.working.free unplaced high takes is.working.root_number b is.budget us leaf ups d leaf_level ascends (turn_enough us fits) (inr fits) e is.height

    stood : (x : CellSeen) → Contains d.old x → Contains (standing w) x
    stood x at = old_stands w key leaf ups path us fresh after d e x at

    pub turn_kept : (c2 : Budget) × IsMeasured t r after now c2 × ((i : ℕ) → (Contains (ids_of d.new) i → ⊥) → c2 1 i ≡ b 1 i) × (most_from c2 (root_of now r) (standing now) ≤ most_from b root (standing w)) × (b root.height root.id ≡ 0 → (root_of now r ≡ root) × (c2 root.height root.id ≡ 0))
    unfolding Left
    turn_kept =
        let (c2, budget, same, less, few, stays) = left in
        let all : most_from c2 (root_of now r) (standing now) ≤ most_from b root (standing w) + 0 =
        placed_few t r fresh w b is now after d change meets stood put working c2 budget seen2 height2 less 0 (omega (arith, few)) in (
          c2,
          placed_measured t r fresh w b is now after d change meets stood put working c2 budget seen2 height2 less,
          λ i out. same 1 i out,
          omega (arith, all),
          placed_root t r fresh w b is now after d change meets stood put working c2 stays,
        )
