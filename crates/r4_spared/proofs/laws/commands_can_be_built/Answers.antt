use Rattle.r4_spared.proofs.Small.{builds}
use Rattle.r4_spared.proofs.laws.commands_can_be_built.Goals as goal

pub returns : goal.returns
returns g = λ c s in_extents t root f cells is keys task. builds c s in_extents t root is f cells keys task
