use Rattle.std.proofs.Common.{length}
use Rattle.r4_extent_build.proofs.turning.+regraft_each.Given as goal

abbrev pub decreases-regraft_each : goal.decreases-regraft_each
decreases-regraft_each l = length l.twigs.now
