use Rattle.std.proofs.Common.{length}
use Rattle.r4_extent_loss.proofs.losing.+regraft_without.Given as goal

abbrev pub decreases-regraft_without : goal.decreases-regraft_without
decreases-regraft_without l = length l.losing.now
