use Rattle.r4_counted.proofs.Taken.{takes_one}
use Rattle.r4_counted.proofs.laws.commands_take_one_object.Goals as goal

pub returns : goal.returns
returns g = record { one = λ c s bytes lawful. takes_one c s lawful bytes }
