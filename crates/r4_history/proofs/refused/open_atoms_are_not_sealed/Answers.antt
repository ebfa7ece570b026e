use Rattle.r4_history.proofs.ServingSteps.{open_is_not_sealed}
use Rattle.r4_history.proofs.refused.open_atoms_are_not_sealed.Goals as goal

pub returns : goal.returns
returns c = open_is_not_sealed
