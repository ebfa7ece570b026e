use Rattle.r4_spared.proofs.Lawful.{keys_lawful}
use Rattle.r4_spared.proofs.laws.commands_change_lawful_keys.Goals as goal

pub returns : goal.returns
returns g = λ c s bytes lawful objects. keys_lawful c s bytes lawful objects
