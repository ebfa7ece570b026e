use Rattle.r4_history.proofs.WorkedTask.{hold_is_in_the_way, out_is_waited_for, worked_task}
use Rattle.r4_history.proofs.examples.one_task.Goals as goal

pub returns : goal.returns
returns c = record { out = worked_task; waits = out_is_waited_for; held = hold_is_in_the_way }
