use Rattle.r4_leaf.proofs.Measured.{Counts}
use Rattle.r4_leaf.proofs.measuring.bytes_of.Given as goal

abbrev pub invariant-loop-piece : goal.invariant-loop-piece
invariant-loop-piece l = Counts l.pieces l.piece-index l.total l.tip
