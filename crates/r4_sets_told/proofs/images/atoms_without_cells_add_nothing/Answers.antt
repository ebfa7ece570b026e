use Rattle.r4_sets_told.proofs.OneContent.{adds_nothing}
use Rattle.r4_sets_told.proofs.images.atoms_without_cells_add_nothing.Goals as goal

pub returns : goal.returns
returns g = adds_nothing
