use Rattle.r4_history.proofs.Worked.{worked}
use Rattle.r4_history.proofs.examples.one_run.Goals as goal

pub returns : goal.returns
returns c = worked
