use Rattle.r4_sets.proofs.Gathered.{committed_sets}
use Rattle.r4_sets.proofs.laws.atom_is_committed.Goals as goal

pub returns : goal.returns
returns g = record { sets = λ w c a clock h e. committed_sets w c h a clock e }
