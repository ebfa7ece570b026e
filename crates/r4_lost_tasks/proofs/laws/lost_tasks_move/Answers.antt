use Rattle.r4_lost_tasks.proofs.LostTask.{moves}
use Rattle.r4_lost_tasks.proofs.laws.lost_tasks_move.Goals as goal

pub returns : goal.returns
returns c = λ task p b h. moves task p b h
