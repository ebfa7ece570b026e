use Rattle.r4_history.proofs.Told.{told_acked}
use Rattle.r4_history.proofs.commands.commits_are_acknowledged.Goals as goal

pub returns : goal.returns
returns c = told_acked
