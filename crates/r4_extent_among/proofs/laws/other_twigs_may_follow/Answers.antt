use Rattle.r4_extent_among.proofs.Ready.{may_follow}
use Rattle.r4_extent_among.proofs.laws.other_twigs_may_follow.Goals as goal

pub returns : goal.returns
returns c = λ b e t r twig other cells f w now u done unplaced among ne small few numbers.
    may_follow b e t r twig other cells f w now u done unplaced among ne small few numbers
