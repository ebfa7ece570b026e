use Rattle.r4_extent_among.proofs.Ready.{can_put, few_left}
use Rattle.r4_extent_among.proofs.laws.measured_twigs_may_be_put_among.Goals as goal

pub returns : goal.returns
returns c = record { can = λ b e t r twig f w u may. can_put b e t r twig f w u may; few = λ b e t r twig cells f w u may are. few_left b e t r twig f w u may cells are }
