use Rattle.r4_history.proofs.ServingSteps.{early_is_not_acked}
use Rattle.r4_history.proofs.refused.early_commits_are_not_acknowledged.Goals as goal

pub returns : goal.returns
returns c = early_is_not_acked
