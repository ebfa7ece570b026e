use Rattle.r4_space.proofs.WordLaws.{low_half, high_half}
use Rattle.r4_space.proofs.words.half_of.Goals as goal

pub returns-then-h-eq0 : goal.returns-then-h-eq0
returns-then-h-eq0 c j lt = low_half c.args.words.now c.args.h j lt c.if-h-eq0.true

pub returns-else-h-eq0 : goal.returns-else-h-eq0
returns-else-h-eq0 c j lt = high_half c.args.words.now c.args.h j lt c.if-h-eq0.false
