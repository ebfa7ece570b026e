use Rattle.r4_grown_tasks.proofs.GrownTask.{moves}
use Rattle.r4_grown_tasks.proofs.laws.grown_tasks_move.Goals as goal

pub returns : goal.returns
returns c = λ task p b cells h. moves task p b cells h
