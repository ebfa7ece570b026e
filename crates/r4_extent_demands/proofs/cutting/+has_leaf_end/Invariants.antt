use Rattle.std.proofs.Common.{length}
use Rattle.r4_extent_demands.proofs.cutting.+has_leaf_end.Given as goal

abbrev pub decreases-has_leaf_end : goal.decreases-has_leaf_end
decreases-has_leaf_end l = length l.pieces.now
