use Rattle.r4_extent_moves.proofs.LostMoves.{moves}
use Rattle.r4_extent_moves.proofs.laws.lost_bodies_move.Goals as goal

pub returns : goal.returns
returns c = λ b e u raw n cells h loses. moves b e u raw n cells h loses
