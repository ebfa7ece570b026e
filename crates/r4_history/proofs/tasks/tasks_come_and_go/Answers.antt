use Rattle.r4_history.proofs.TaskSteps.{holds_new, tasks_back, tasks_dropped, tasks_first, tasks_out}
use Rattle.r4_history.proofs.tasks.tasks_come_and_go.Goals as goal

pub returns : goal.returns
returns c = record { start = tasks_first; new = holds_new; out = tasks_out; back = tasks_back; dropped = tasks_dropped }
