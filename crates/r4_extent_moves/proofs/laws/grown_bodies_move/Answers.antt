use Rattle.r4_extent_moves.proofs.GrownMoves.{moves}
use Rattle.r4_extent_moves.proofs.laws.grown_bodies_move.Goals as goal

pub returns : goal.returns
returns c = λ b e u raw n cells keys h grows. moves b e u raw n cells keys h grows
