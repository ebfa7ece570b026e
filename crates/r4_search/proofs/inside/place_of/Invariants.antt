use Rattle.std.proofs.Common.{◌<◌, ◌≤◌, length, drop, ◌-◌}
use Rattle.r4_base.specs.Cell.{next_key}
use Rattle.r4_base.specs.Key.{rank}
use Rattle.r4_cell.specs.r4_node40.View.{view_items}
use Rattle.r4_search.proofs.inside.place_of.Given as goal

abbrev pub invariant-loop-high : goal.invariant-loop-high
invariant-loop-high l = record {
  order : l.low < l.high;
  within : l.high ≤ length (view_items l.node);
  from : next_key (rank l.fn.hi) (drop l.low (view_items l.node)) ≤ rank l.key;
  below : rank l.key < next_key (rank l.fn.hi) (drop l.high (view_items l.node));
}

abbrev pub decreases-loop-high : goal.decreases-loop-high
decreases-loop-high l = l.high - l.low
