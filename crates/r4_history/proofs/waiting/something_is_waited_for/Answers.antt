use Rattle.r4_history.proofs.WaitingSteps.{waits_for_something}
use Rattle.r4_history.proofs.waiting.something_is_waited_for.Goals as goal

pub returns : goal.returns
returns c = waits_for_something
