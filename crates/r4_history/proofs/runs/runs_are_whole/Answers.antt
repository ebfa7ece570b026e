use Rattle.r4_history.proofs.RunSteps.{told_over}
use Rattle.r4_history.proofs.runs.runs_are_whole.Goals as goal

pub returns : goal.returns
returns c = told_over
