use Rattle.r4_space.proofs.WordLaws.{sets}
use Rattle.r4_space.proofs.words.set_bit.Goals as goal

pub returns-clause-set : goal.returns-clause-set
returns-clause-set c k = sets c.args.words.now c.args.i k c.requires
