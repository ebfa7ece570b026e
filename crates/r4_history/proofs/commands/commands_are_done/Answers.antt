use Rattle.r4_history.proofs.Told.{told_done, told_done_single, without_same}
use Rattle.r4_history.proofs.commands.commands_are_done.Goals as goal

pub returns : goal.returns
returns c = record {
  inside = λ w start clock t trace h txn script i c had id r none is work same reply new.
      told_done w start clock t trace h txn script i c had r none is.stands work
      (without_same id had c same) is.index reply new;
  single = λ w start clock t trace h txn script i c had id r none is work same reply new.
      told_done_single w start clock t trace h txn script i c had r none is.stands work
      (without_same id had c same) is.index reply new;
}
