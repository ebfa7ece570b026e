use Rattle.r4_put_tasks.proofs.PutMoves.{is_move}
use Rattle.r4_put_tasks.proofs.laws.put_tasks_move.Goals as goal

pub returns : goal.returns
returns c = λ task p h. is_move task p h
