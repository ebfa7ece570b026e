use Rattle.std.proofs.Common.{length}
use Rattle.r4_extent_loss.proofs.losing.+leaf_range.Given as goal

abbrev pub decreases-leaf_range : goal.decreases-leaf_range
decreases-leaf_range l = length l.pieces.now
