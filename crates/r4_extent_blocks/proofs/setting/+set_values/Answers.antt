use Rattle.r4_base.specs.Key.{rank}
use Rattle.r4_extent_blocks.proofs.Sets.{set_both, value_first}
use Rattle.r4_extent_blocks.proofs.setting.+set_values.Goals as goal

pub returns-in-Some : goal.returns-in-Some
returns-in-Some t c =
    set_both _ _ _ (rank c.args.lo.now) _ _ _ (value_first c.args.values.now c.in-Some.first.now c.in-Some.rest.now c.in-Some.ensures.cases.0) c.set_value.ensures c.set_values.ensures
