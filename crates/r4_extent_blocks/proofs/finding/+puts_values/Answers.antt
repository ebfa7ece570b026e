use Rattle.r4_base.specs.Key.{rank}
use Rattle.r4_extent_blocks.proofs.Sets.{tells_first, tells_rest, value_first}
use Rattle.r4_extent_blocks.proofs.finding.+puts_values.Goals as goal

pub returns-then-is_put : goal.returns-then-is_put
returns-then-is_put t c =
    tells_first _ _ _ (rank c.args.lo.now) (value_first c.args.values.now c.in-Some.first.now c.in-Some.rest.now c.in-Some.ensures.cases.0) _ c.is_put.ensures c.if-is_put.true

pub returns-else-is_put : goal.returns-else-is_put
returns-else-is_put t c =
    tells_rest _ _ _ (rank c.args.lo.now) (value_first c.args.values.now c.in-Some.first.now c.in-Some.rest.now c.in-Some.ensures.cases.0) _ _ c.is_put.ensures c.if-is_put.false c.puts_values.ensures
