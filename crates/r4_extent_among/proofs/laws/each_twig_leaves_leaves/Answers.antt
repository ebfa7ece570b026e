use Rattle.r4_extent_among.proofs.Several.{leaves_each}
use Rattle.r4_extent_among.proofs.laws.each_twig_leaves_leaves.Goals as goal

pub returns : goal.returns
returns c = λ b e t r twigs cells f after w now u may put. leaves_each b e t r twigs cells f after w now u may put
