use Rattle.r4_extent_among.proofs.Several.{sets_each}
use Rattle.r4_extent_among.proofs.laws.each_twig_sets_values.Goals as goal

pub returns : goal.returns
returns c = λ b e t r twigs cells f after w now can put. sets_each b e t r twigs cells f after w now can put
