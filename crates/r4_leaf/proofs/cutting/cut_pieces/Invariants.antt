use Rattle.std.proofs.Common.{length}
use Rattle.r4_base.specs.Key.{rank}
use Rattle.r4_leaf.proofs.CutPieces.{IsCutTo}
use Rattle.r4_leaf.proofs.cutting.cut_pieces.Given as goal

abbrev pub invariant-loop-piece : goal.invariant-loop-piece
invariant-loop-piece l = IsCutTo (rank l.from) (rank l.to) l.fn.pieces.items l.pieces.items l.left.items

abbrev pub decreases-loop-piece : goal.decreases-loop-piece
decreases-loop-piece l = length l.pieces.items
