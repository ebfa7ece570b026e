use Rattle.r4_history.proofs.DrawnSteps.{drawn_back, drawn_done, drawn_first, drawn_out, last_stays}
use Rattle.r4_history.proofs.ids.ids_are_drawn_once.Goals as goal

pub returns : goal.returns
returns c = record { start = drawn_first; out = drawn_out; back = drawn_back; done = drawn_done; last = last_stays }
