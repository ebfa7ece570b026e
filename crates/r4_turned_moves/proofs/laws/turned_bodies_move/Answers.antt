use Rattle.r4_turned_moves.proofs.TurnedMoves.{moves}
use Rattle.r4_turned_moves.proofs.laws.turned_bodies_move.Goals as goal

pub returns : goal.returns
returns c = λ b e u raw n x h turns. moves b e u raw n x h turns
