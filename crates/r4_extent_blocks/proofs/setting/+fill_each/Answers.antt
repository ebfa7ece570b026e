use Rattle.r4_base.specs.Key.{rank}
use Rattle.r4_content.specs.Held.{fill_pairs}
use Rattle.r4_extent_blocks.proofs.Sets.{flat_first, set_both}
use Rattle.r4_extent_blocks.proofs.setting.+fill_each.Goals as goal

pub returns-in-Some : goal.returns-in-Some
returns-in-Some t c =
    set_both _ _ _ (rank c.args.lo.now) _ _ _ (flat_first fill_pairs c.args.fills.now c.in-Some.first.now c.in-Some.rest.now c.in-Some.ensures.cases.0) c.fill.ensures c.fill_each.ensures
