use Rattle.std.proofs.Common.{◌≡◌, ◌++◌, length}
use Rattle.std.specs.Prelude.{reverse}
use Rattle.r4_leaf.proofs.merging.move_all.Given as goal

abbrev pub invariant-loop-piece : goal.invariant-loop-piece
invariant-loop-piece l = l.pieces.items ++ reverse l.merged.items ≡ l.fn.pieces.items ++ reverse l.fn.merged.items

abbrev pub decreases-loop-piece : goal.decreases-loop-piece
decreases-loop-piece l = length l.pieces.items
