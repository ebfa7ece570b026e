use Rattle.r4_extent_among.proofs.Ready.{among_in_part}
use Rattle.r4_extent_among.proofs.laws.twigs_of_parts_are_among.Goals as goal

pub returns : goal.returns
returns c = λ b e t r f w twig working is. among_in_part b e t r f w twig working is
