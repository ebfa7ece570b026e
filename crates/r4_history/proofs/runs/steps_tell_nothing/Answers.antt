use Rattle.r4_history.proofs.RunSteps.{told_back, told_charged, told_dropped, told_later, told_out, told_owners, told_pushed}
use Rattle.r4_history.proofs.runs.steps_tell_nothing.Goals as goal

pub returns : goal.returns
returns c = record {
  out = told_out;
  dropped = told_dropped;
  back = told_back;
  pushed = told_pushed;
  owners = told_owners;
  charged = told_charged;
  later = told_later;
}
