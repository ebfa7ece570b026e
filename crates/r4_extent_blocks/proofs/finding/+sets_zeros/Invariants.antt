use Rattle.std.proofs.Common.{length}
use Rattle.r4_extent_blocks.proofs.finding.+sets_zeros.Given as goal

abbrev pub decreases-sets_zeros : goal.decreases-sets_zeros
decreases-sets_zeros l = length l.zeros.now
