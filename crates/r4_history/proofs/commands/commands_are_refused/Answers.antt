use Rattle.r4_history.proofs.Told.{told_refused_commit, told_refused_inside, told_refused_outside, told_refused_single, told_reopen}
use Rattle.r4_history.proofs.commands.commands_are_refused.Goals as goal

pub returns : goal.returns
returns c = record {
  outside = λ w start clock t trace h txn script i c r none is work zero.
      told_refused_outside w start clock t trace h txn script i c r none is.stands work is.index zero;
  commit = λ w start clock t trace h txn script i r none is zero.
      told_refused_commit w start clock t trace h txn script i r none is.stands is.index zero;
  inside = λ w start clock t trace h txn script i c r none is work.
      told_refused_inside w start clock t trace h txn script i c r none is.stands work is.index;
  single = λ w start clock t trace h txn script i c r none is work.
      told_refused_single w start clock t trace h txn script i c r none is.stands work is.index;
  reopen = λ w start clock t trace h txn script i c o failed some is zero.
      told_reopen w start clock t trace h txn script i c o failed some is.stands is.index zero;
}
