use Rattle.r4_extent_among.proofs.Several.{can_each}
use Rattle.r4_extent_among.proofs.laws.measured_twigs_may_each_be_put_among.Goals as goal

pub returns : goal.returns
returns c = λ b e t r twigs f w u may. can_each b e t r twigs f w u may
