use Rattle.r4_history.proofs.RunSteps.{told_first}
use Rattle.r4_history.proofs.runs.runs_begin.Goals as goal

pub returns : goal.returns
returns c = told_first
