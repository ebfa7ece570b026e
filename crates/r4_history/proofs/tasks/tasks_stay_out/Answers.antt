use Rattle.r4_history.proofs.TaskSteps.{tasks_answered, tasks_entered, tasks_left, tasks_other, tasks_owned, tasks_pushed}
use Rattle.r4_history.proofs.tasks.tasks_stay_out.Goals as goal

pub returns : goal.returns
returns c = record {
  entered = tasks_entered;
  left = tasks_left;
  answered = tasks_answered;
  others = tasks_other;
  pushed = tasks_pushed;
  owners = tasks_owned;
}
