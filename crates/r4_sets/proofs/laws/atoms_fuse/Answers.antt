use Rattle.r4_sets.proofs.Gathered.{fused_sets}
use Rattle.r4_sets.proofs.laws.atoms_fuse.Goals as goal

pub returns : goal.returns
returns g = record { sets = λ w c a b node h oa ob. fused_sets w c h a b node oa ob }
