use Rattle.r4_extent_among.proofs.SetsValues.{sets_below}
use Rattle.r4_extent_among.proofs.laws.among_turns_set_values.Goals as goal

pub returns : goal.returns
returns c = λ b e twig cells next is are high. sets_below b e twig cells is are next high
