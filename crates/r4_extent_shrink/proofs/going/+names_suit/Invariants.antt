use Rattle.std.proofs.Common.{length}
use Rattle.r4_extent_shrink.proofs.going.+names_suit.Given as goal

abbrev pub decreases-names_suit : goal.decreases-names_suit
decreases-names_suit l = length l.pieces.now
