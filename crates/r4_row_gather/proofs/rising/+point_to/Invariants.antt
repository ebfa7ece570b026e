use Rattle.std.proofs.Common.{length}
use Rattle.r4_row_gather.proofs.rising.+point_to.Given as goal

abbrev pub decreases-point_to : goal.decreases-point_to
decreases-point_to l = length l.low.now
