use Rattle.std.proofs.Common.{length}
use Rattle.r4_extent_counts.proofs.gaining.+filled_in_all.Given as goal

abbrev pub decreases-filled_in_all : goal.decreases-filled_in_all
decreases-filled_in_all l = length l.pieces.now
