use Rattle.r4_history.proofs.WaitingSteps.{next_suits}
use Rattle.r4_history.proofs.waiting.next_commands_suit.Goals as goal

pub returns : goal.returns
returns c = next_suits
