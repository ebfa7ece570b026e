use Rattle.r4_space.proofs.HalfLaws.{no_ones, some_ones}
use Rattle.r4_space.proofs.marks.ones_from.Goals as goal

pub returns-then-from-ge32 : goal.returns-then-from-ge32
returns-then-from-ge32 c j lt = no_ones c.args.from j c.if-from-ge32.true lt

pub returns : goal.returns
returns c j lt = some_ones c.args.from j c.if-from-ge32.false lt
