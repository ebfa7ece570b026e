use Rattle.r4_turned_tasks.proofs.TurnedTask.{moves}
use Rattle.r4_turned_tasks.proofs.laws.turned_tasks_move.Goals as goal

pub returns : goal.returns
returns c = λ task p b x h. moves task p b x h
