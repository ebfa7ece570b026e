use Rattle.r4_base.specs.Key.{rank}
use Rattle.r4_content.specs.Held.{fill_pairs}
use Rattle.r4_extent_blocks.proofs.Sets.{all_first, all_rest, flat_first}
use Rattle.r4_extent_blocks.proofs.finding.+fills_over.Goals as goal

pub returns-then-fill_covers : goal.returns-then-fill_covers
returns-then-fill_covers t c = λ e. all_first _ _ _ (rank c.args.lo.now) (flat_first fill_pairs c.args.fills.now c.in-Some.first.now c.in-Some.rest.now c.in-Some.ensures.cases.0) (c.fill_covers.ensures c.if-fill_covers.true)

pub returns-else-fill_covers : goal.returns-else-fill_covers
returns-else-fill_covers t c = λ e. all_rest _ _ _ (rank c.args.lo.now) (flat_first fill_pairs c.args.fills.now c.in-Some.first.now c.in-Some.rest.now c.in-Some.ensures.cases.0) (c.fills_over.ensures e)
