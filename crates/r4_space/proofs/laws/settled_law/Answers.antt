use Rattle.r4_space.proofs.UsedLaws.{settled_marks}
use Rattle.r4_space.proofs.laws.settled_law.Goals as goal

pub returns : goal.returns
returns c s atom later b first lt = settled_marks s atom later b first lt
