-- A working set of which is known what may still come (docs/volume.md, "What may still come").
use Rattle.std.specs.Prelude.{◌≡◌, ℕ, ◌≤◌, Contains, Some}
use Rattle.r4_base.specs.Tree.{Name, Node, Root, Store}
use Rattle.r4_base.specs.Value.{Value}
use Rattle.r4_reach.specs.r4_cell.Seen.{CellSeen}
use Rattle.r4_reach.specs.r4_cell.declared.change.Change.{Change}
use Rattle.r4_reach.specs.r4_cell.declared.change.Fresh.{Fresh}
use Rattle.r4_reach.specs.r4_patch.Joining.{ids_of}
use Rattle.r4_work.specs.Working.{IsWorking, now_of, root_of, standing}
use Rattle.r4_work.specs.declared.working.WorkingSet.{WorkingSet}
use Rattle.r4_measure.specs.Budget.{AreSeen, Budget, IsBudget, most_from}

-- What stands has a budget, and each cell stands that names one of which something may come.
pub record IsMeasured (t : Store Value) (r : Root) (fresh : Fresh) (w : WorkingSet) (b : Budget)
    : Type 0 where
  pub working : IsWorking t r fresh w
  pub seen : AreSeen (now_of w t)
  pub budget : IsBudget (now_of w t) (root_of w r) b
  pub height : (root_of w r).height ≤ 8
  pub kept : (i : ℕ) (c : Node Value) (n : Name) → now_of w t i ≡ Some c → Contains c.names n
      → 1 ≤ n.level → 1 ≤ b n.level n.id → (x : CellSeen) × Contains (standing w) x × (x.id ≡ i)

-- The set after a change is measured: leaves that are none of the change's new cells keep what they had, and there may
-- be no more cells in the end than before. Where nothing may come of the root, it stays the root, and nothing may come
-- of it.
pub record LeavesMeasure (t : Store Value) (r : Root) (after : Fresh) (w now : WorkingSet)
    (b : Budget) (d : Change) : Type 0 where
  pub left : Budget
  pub measured : IsMeasured t r after now left
  pub leaves : (i : ℕ) → (Contains (ids_of d.new) i → ⊥) → left 1 i ≡ b 1 i
  pub few : most_from left (root_of now r) (standing now)
      ≤ most_from b (root_of w r) (standing w)
  pub root : b (root_of w r).height (root_of w r).id ≡ 0
      → (root_of now r ≡ root_of w r) × (left (root_of w r).height (root_of w r).id ≡ 0)
