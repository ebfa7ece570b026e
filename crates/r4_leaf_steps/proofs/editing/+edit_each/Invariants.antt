use Rattle.std.proofs.Common.{length}
use Rattle.r4_leaf_steps.proofs.editing.+edit_each.Given as goal

abbrev pub decreases-edit_each : goal.decreases-edit_each
decreases-edit_each l = length l.cells.now
