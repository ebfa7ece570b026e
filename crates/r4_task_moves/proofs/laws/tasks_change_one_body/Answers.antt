use Rattle.r4_task_moves.proofs.TaskBody.{changes_body}
use Rattle.r4_task_moves.proofs.laws.tasks_change_one_body.Goals as goal

pub returns : goal.returns
returns c = λ task b u root raw n is place. changes_body task b u root raw n is place
