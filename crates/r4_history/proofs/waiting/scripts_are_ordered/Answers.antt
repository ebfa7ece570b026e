use Rattle.r4_history.proofs.WaitingSteps.{pushed_ordered, text_ordered}
use Rattle.r4_history.proofs.waiting.scripts_are_ordered.Goals as goal

pub returns : goal.returns
returns c = record { text = text_ordered; pushed = pushed_ordered }
