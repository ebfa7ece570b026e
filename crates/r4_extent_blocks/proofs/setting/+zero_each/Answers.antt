use Rattle.r4_base.specs.Key.{rank}
use Rattle.r4_extent_blocks.proofs.Sets.{set_both, zero_first}
use Rattle.r4_extent_blocks.proofs.setting.+zero_each.Goals as goal

pub returns-in-Some : goal.returns-in-Some
returns-in-Some t c =
    set_both _ _ _ (rank c.args.lo.now) _ _ _ (zero_first c.args.zeros.now c.in-Some.first.now c.in-Some.rest.now c.in-Some.ensures.cases.0) c.fill.ensures c.zero_each.ensures
