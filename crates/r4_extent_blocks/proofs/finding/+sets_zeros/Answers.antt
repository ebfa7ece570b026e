use Rattle.r4_base.specs.Key.{rank}
use Rattle.r4_extent_blocks.proofs.Sets.{tells_first, tells_rest, zero_first}
use Rattle.r4_extent_blocks.proofs.finding.+sets_zeros.Goals as goal

pub returns-then-fills : goal.returns-then-fills
returns-then-fills t c =
    tells_first _ _ _ (rank c.args.lo.now) (zero_first c.args.zeros.now c.in-Some.first.now c.in-Some.rest.now c.in-Some.ensures.cases.0) _ c.fills.ensures c.if-fills.true

pub returns-else-fills : goal.returns-else-fills
returns-else-fills t c =
    tells_rest _ _ _ (rank c.args.lo.now) (zero_first c.args.zeros.now c.in-Some.first.now c.in-Some.rest.now c.in-Some.ensures.cases.0) _ _ c.fills.ensures c.if-fills.false c.sets_zeros.ensures
