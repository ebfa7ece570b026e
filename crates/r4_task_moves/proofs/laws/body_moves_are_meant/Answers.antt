use Rattle.r4_task_moves.proofs.BodyMoves.{is_move}
use Rattle.r4_task_moves.proofs.laws.body_moves_are_meant.Goals as goal

pub returns : goal.returns
returns c = λ task p b at to h. is_move task p b at to h
