use Rattle.r4_history.proofs.ServingSteps.{failed_reopens}
use Rattle.r4_history.proofs.refused.failed_runs_answer_reopen.Goals as goal

pub returns : goal.returns
returns c = failed_reopens
