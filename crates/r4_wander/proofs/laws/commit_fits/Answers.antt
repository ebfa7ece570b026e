use Rattle.r4_wander.proofs.Fitting.{fits}
use Rattle.r4_wander.proofs.laws.commit_fits.Goals as goal

pub returns : goal.returns
returns c = λ n p plan more below order. fits n p below plan more order
