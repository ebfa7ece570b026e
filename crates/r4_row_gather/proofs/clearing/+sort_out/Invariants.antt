use Rattle.std.proofs.Common.{length}
use Rattle.r4_row_gather.proofs.clearing.+sort_out.Given as goal

abbrev pub decreases-sort_out : goal.decreases-sort_out
decreases-sort_out l = length l.pieces.now
