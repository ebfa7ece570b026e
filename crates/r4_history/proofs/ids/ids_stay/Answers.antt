use Rattle.r4_history.proofs.DrawnSteps.{drawn_answered, drawn_dropped, drawn_entered, drawn_entry, drawn_left, drawn_pushed}
use Rattle.r4_history.proofs.ids.ids_stay.Goals as goal

pub returns : goal.returns
returns c = record {
  entered = drawn_entered;
  left = drawn_left;
  answered = drawn_answered;
  dropped = drawn_dropped;
  entry = drawn_entry;
  pushed = drawn_pushed;
}
