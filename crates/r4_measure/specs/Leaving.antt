-- What edits of a leaf leave of a budget (docs/volume.md, "What may still come").
use Rattle.std.specs.Prelude.{◌≡◌, ◌⊎◌, ℕ, ◌≤◌, List, ◌∷◌, Contains, None}
use Rattle.r4_base.specs.Tree.{Root, Store}
use Rattle.r4_base.specs.Value.{Value}
use Rattle.r4_reach.specs.r4_cell.Patch.{place, root_after}
use Rattle.r4_reach.specs.r4_cell.Seen.{CellSeen}
use Rattle.r4_reach.specs.r4_cell.declared.change.Change.{Change}
use Rattle.r4_reach.specs.r4_cell.declared.change.Fresh.{Fresh}
use Rattle.r4_reach.specs.r4_leaf.Units.{LeafUnit, leaf_bytes}
use Rattle.r4_reach.specs.r4_patch.Joining.{ids_of, patch_of_change}
use Rattle.r4_reach.specs.r4_patch.Part.{IsPart}
use Rattle.r4_reach.specs.r4_path.Levels.{IsLongEnough}
use Rattle.r4_reach.specs.r4_path.Nodes.{IsPointable}
use Rattle.r4_reach.specs.r4_path.Steps.{Ascends, IsFree, OnlyTakes}
use Rattle.r4_work.specs.r4_edit.Editing.{Edits, extra_cells}
use Rattle.r4_measure.specs.Budget.{AreSeen, AreUnplaced, Budget, IsBudget, IsFresh, most_from}

-- A part of a tree of cells, where these numbers are free, has a budget.
pub record HasBudget (now : Store Value) (r : Root) (f : Fresh) (b : Budget) : Type 0 where
  pub part : IsPart now r
  pub seen : AreSeen now
  pub free : IsFree f.next f.end now
  pub unplaced : AreUnplaced f
  pub root_number : IsPointable r.id
  pub budget : IsBudget now r b

-- All edits of a leaf, of which is known by what path it is reached; what comes beside it is in the budget.
pub record AreEditsIn (now : Store Value) (r : Root) (b : Budget) (us : List LeafUnit)
    (leaf : CellSeen) (ups : List CellSeen) (f after : Fresh) (d : Change) : Type 0 where
  pub level : leaf.level ≡ 1
  pub path : Ascends now None (leaf ∷ ups)
  pub enough : (leaf_bytes us ≤ 4068) ⊎ IsLongEnough r (extra_cells us) leaf ups
  pub come : (leaf_bytes us ≤ 4068) ⊎ (extra_cells us ≤ b 1 leaf.id)
  pub edits : Edits leaf ups us f after d
  pub takes : OnlyTakes f after

-- With the change in place there is a budget: cells that are none of its new ones keep what they had, and no old one
-- has more. Of its new cells there may be no more in the end than of its old ones before. Where nothing may come of the
-- root, it stays the root, and nothing may come of it.
pub record LeavesBudget (now : Store Value) (r : Root) (f : Fresh) (b : Budget) (d : Change)
    : Type 0 where
  pub left : Budget
  pub budget : IsBudget (place (patch_of_change d) now) (root_after (patch_of_change d) r) left
  pub others : (k i : ℕ) → (Contains (ids_of d.new) i → ⊥) → left k i ≡ b k i
  pub less : (k i : ℕ) → (IsFresh f i → ⊥) → left k i ≤ b k i
  pub few : most_from left (root_after (patch_of_change d) r) d.new ≤ most_from b r d.old
  pub root : b r.height r.id ≡ 0 → (root_after (patch_of_change d) r ≡ r) × (left r.height r.id ≡ 0)
