use Rattle.r4_history.proofs.Told.{told_fuse}
use Rattle.r4_history.proofs.atoms.two_atoms_fuse.Goals as goal

pub returns : goal.returns
returns c = told_fuse
