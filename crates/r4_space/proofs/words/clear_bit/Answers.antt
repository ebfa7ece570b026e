use Rattle.r4_space.proofs.WordLaws.{clears}
use Rattle.r4_space.proofs.words.clear_bit.Goals as goal

pub returns-clause-clear : goal.returns-clause-clear
returns-clause-clear c k = clears c.args.words.now c.args.i k c.requires
