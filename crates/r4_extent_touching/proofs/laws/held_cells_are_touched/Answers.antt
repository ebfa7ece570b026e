use Rattle.r4_extent_touching.proofs.Touched.{all_there}
use Rattle.r4_extent_touching.proofs.laws.held_cells_are_touched.Goals as goal

pub returns : goal.returns
returns g c = λ d t root part h. all_there t root part d h
