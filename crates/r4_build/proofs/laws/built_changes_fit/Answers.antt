use Rattle.r4_build.proofs.Fitting.{built_meets}
use Rattle.r4_build.proofs.laws.built_changes_fit.Goals as goal

pub returns : goal.returns
returns c = λ x t r is are root. built_meets x is t r are.stand are.free root
