use Rattle.r4_base.specs.Key.{rank}
use Rattle.r4_extent_blocks.proofs.Sets.{all_set}
use Rattle.r4_extent_blocks.proofs.setting.set_all.Goals as goal

pub returns : goal.returns
returns c =
    all_set c.args.edits.now (rank c.args.lo.now) _ _ _ _ _ _ _ _ _ c.as_slice.ensures.value c.as_slice-2.ensures.value c.as_slice-3.ensures.value c.as_slice-4.ensures.value c.zero_each.ensures c.fill_each.ensures c.set_runs.ensures c.set_values.ensures
