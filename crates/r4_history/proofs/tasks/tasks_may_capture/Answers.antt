use Rattle.r4_history.proofs.TaskSteps.{atom_open, reach_free}
use Rattle.r4_history.proofs.tasks.tasks_may_capture.Goals as goal

pub returns : goal.returns
returns c = record { atom = atom_open; free = reach_free }
