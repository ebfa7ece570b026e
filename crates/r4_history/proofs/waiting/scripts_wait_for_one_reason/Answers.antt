use Rattle.r4_history.proofs.WaitingSteps.{one_reason, one_wait, served_or_waits}
use Rattle.r4_history.proofs.waiting.scripts_wait_for_one_reason.Goals as goal

pub returns : goal.returns
returns c = record { script = one_reason; told = one_wait; either = served_or_waits }
