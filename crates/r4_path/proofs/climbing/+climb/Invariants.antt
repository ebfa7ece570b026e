use Rattle.std.proofs.Common.{length}
use Rattle.r4_path.proofs.climbing.+climb.Given as goal

abbrev pub decreases-climb : goal.decreases-climb
decreases-climb l = length l.above.now
