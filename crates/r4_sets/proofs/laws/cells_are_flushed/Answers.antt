use Rattle.r4_sets.proofs.Flushed.{flushed_sets}
use Rattle.r4_sets.proofs.laws.cells_are_flushed.Goals as goal

pub returns : goal.returns
returns g = record { sets = λ w c d h f. flushed_sets w c h d f }
