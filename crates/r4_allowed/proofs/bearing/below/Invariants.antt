use Rattle.std.proofs.Common.{◌≡◌, ◌-◌, ◌*◌, ◌^◌, ◌≤◌, take}
use Rattle.r4_base.specs.Node.{items_of}
use Rattle.r4_extent_put.specs.r4_extent_change.r4_measure.Budget.{below}
use Rattle.r4_allowed.specs.Table.{budget_of}
use Rattle.r4_allowed.proofs.bearing.below.Given as goal

abbrev pub invariant-loop-i : goal.invariant-loop-i
invariant-loop-i l = record {
  sum : l.cells ≡ below (budget_of l.table (l.node.level - 1)) (take l.i (items_of l.node.block));
  small : l.cells ≤ 2 ^ 64 * l.i;
}
