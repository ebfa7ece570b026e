use Rattle.std.proofs.Common.{length}
use Rattle.r4_leaf.proofs.Merged.{IsMerged}
use Rattle.r4_leaf.proofs.merging.put_pieces.Given as goal

abbrev pub invariant-loop-piece : goal.invariant-loop-piece
invariant-loop-piece l = IsMerged l.fn.given.items l.fn.pieces.items l.given.items l.pieces.items l.merged.items

abbrev pub decreases-loop-piece : goal.decreases-loop-piece
decreases-loop-piece l = length l.given.items
