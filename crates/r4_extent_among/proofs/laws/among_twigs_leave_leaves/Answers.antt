use Rattle.r4_extent_among.proofs.LeftSet.{twig_leaves}
use Rattle.r4_extent_among.proofs.laws.among_twigs_leave_leaves.Goals as goal

pub returns : goal.returns
returns c = λ b e t r twig cells f w now u may are turned. twig_leaves b e t r twig cells f w now u may are turned
