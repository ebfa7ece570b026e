use Rattle.r4_history.proofs.DrawnSteps.{drawn_for}
use Rattle.r4_history.proofs.ids.drawn_ids_are_new.Goals as goal

pub returns : goal.returns
returns c = drawn_for
