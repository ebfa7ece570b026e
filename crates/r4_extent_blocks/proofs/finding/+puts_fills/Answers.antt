use Rattle.r4_base.specs.Key.{rank}
use Rattle.r4_content.specs.Held.{fill_pairs}
use Rattle.r4_extent_blocks.proofs.Sets.{flat_first, tells_first, tells_rest}
use Rattle.r4_extent_blocks.proofs.finding.+puts_fills.Goals as goal

pub returns-then-fills : goal.returns-then-fills
returns-then-fills t c =
    tells_first _ _ _ (rank c.args.lo.now) (flat_first fill_pairs c.args.those.now c.in-Some.first.now c.in-Some.rest.now c.in-Some.ensures.cases.0) _ c.fills.ensures c.if-fills.true

pub returns-else-fills : goal.returns-else-fills
returns-else-fills t c =
    tells_rest _ _ _ (rank c.args.lo.now) (flat_first fill_pairs c.args.those.now c.in-Some.first.now c.in-Some.rest.now c.in-Some.ensures.cases.0) _ _ c.fills.ensures c.if-fills.false c.puts_fills.ensures
