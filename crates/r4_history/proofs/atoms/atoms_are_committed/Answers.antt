use Rattle.r4_history.proofs.Told.{told_broken, told_committed, told_sealed, told_settled}
use Rattle.r4_history.proofs.atoms.atoms_are_committed.Goals as goal

pub returns : goal.returns
returns c = record { sealed = told_sealed; committed = told_committed; settled = told_settled; broken = told_broken }
