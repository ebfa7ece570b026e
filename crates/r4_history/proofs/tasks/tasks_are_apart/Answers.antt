use Rattle.r4_history.proofs.TaskSteps.{held_apart}
use Rattle.r4_history.proofs.tasks.tasks_are_apart.Goals as goal

pub returns : goal.returns
returns c = held_apart
