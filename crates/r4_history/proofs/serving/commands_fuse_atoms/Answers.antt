use Rattle.r4_history.proofs.Fusing.{atom_is_least, fuses_told, reach_is_own, served_behind}
use Rattle.r4_history.proofs.serving.commands_fuse_atoms.Goals as goal

pub returns : goal.returns
returns c = record { told = fuses_told; reach = reach_is_own; atom = atom_is_least; served = served_behind }
