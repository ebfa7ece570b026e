use Rattle.std.proofs.Common.{length}
use Rattle.r4_edit_testing.proofs.trials.+follow.Given as goal

abbrev pub decreases-follow : goal.decreases-follow
decreases-follow l = length l.cells.now
