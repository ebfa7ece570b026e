use Rattle.std.proofs.Common.{length}
use Rattle.r4_extent_change.proofs.growing.+pick_each.Given as goal

abbrev pub decreases-pick_each : goal.decreases-pick_each
decreases-pick_each l = length l.cells.now
