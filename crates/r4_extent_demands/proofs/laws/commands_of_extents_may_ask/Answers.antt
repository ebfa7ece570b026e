use Rattle.r4_extent_demands.proofs.OfCommands.{command_asks}
use Rattle.r4_extent_demands.proofs.laws.commands_of_extents_may_ask.Goals as goal

pub returns : goal.returns
returns g c s in_extents paths rises lawful is = command_asks c s in_extents paths rises lawful is
