use Rattle.std.proofs.Common.{length}
use Rattle.r4_row_gather.proofs.packing.+packed_below.Given as goal

abbrev pub decreases-packed_below : goal.decreases-packed_below
decreases-packed_below l = length l.twigs.now
