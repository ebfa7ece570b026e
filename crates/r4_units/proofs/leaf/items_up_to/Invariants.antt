use Rattle.std.proofs.Common.{◌-◌}
use Rattle.r4_base.specs.Key.{rank}
use Rattle.r4_node40.specs.View.{view_items}
use Rattle.r4_units.proofs.Rising.{Narrows}
use Rattle.r4_units.proofs.leaf.items_up_to.Given as goal

abbrev pub invariant-loop-low : goal.invariant-loop-low
invariant-loop-low l = Narrows (view_items l.node) (rank l.key) l.low l.high

abbrev pub decreases-loop-low : goal.decreases-loop-low
decreases-loop-low l = l.high - l.low
