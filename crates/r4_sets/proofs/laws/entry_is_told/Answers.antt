use Rattle.r4_sets.proofs.Gathered.{told_sets}
use Rattle.r4_sets.proofs.laws.entry_is_told.Goals as goal

pub returns : goal.returns
returns g = record { sets = λ w c e h quiet. told_sets w c h e quiet }
