use Rattle.r4_extent_build.proofs.GrowingReady.{is_ready}
use Rattle.r4_extent_build.proofs.laws.growing_twigs_are_ready.Goals as goal

pub returns : goal.returns
returns c = λ t r f w u b first e twig working growing clear level stands small few. is_ready t r f w working u b first e twig level stands growing clear small few
