use Rattle.std.proofs.Common.{length}
use Rattle.r4_base.specs.Key.{rank}
use Rattle.r4_leaf.proofs.Merged.{Moving}
use Rattle.r4_leaf.proofs.merging.move_above.Given as goal

abbrev pub invariant-loop-piece : goal.invariant-loop-piece
invariant-loop-piece l = Moving (rank l.key) l.fn.pieces.items l.fn.merged.items l.pieces.items l.merged.items

abbrev pub decreases-loop-piece : goal.decreases-loop-piece
decreases-loop-piece l = length l.pieces.items
