use Rattle.r4_bodies.proofs.Premises.{command_bytes}
use Rattle.r4_bodies.proofs.laws.commands_set_bytes_of_bodies.Goals as goal

pub returns : goal.returns
returns g c s bytes r lawful = command_bytes c s bytes r lawful
