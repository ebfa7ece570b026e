use Rattle.r4_sets.proofs.Patches.{freed, still_owned}
use Rattle.r4_sets.proofs.Gathered.{sealed_sets}
use Rattle.r4_sets.proofs.laws.atom_is_sealed.Goals as goal

pub returns : goal.returns
returns g = record { sets = λ w c a h. sealed_sets w c h a; freed = freed; others = still_owned }
