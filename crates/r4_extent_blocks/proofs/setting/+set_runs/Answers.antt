use Rattle.r4_base.specs.Key.{rank}
use Rattle.r4_content.specs.Held.{run_pairs}
use Rattle.r4_extent_blocks.proofs.Sets.{flat_first, set_both, set_run_at}
use Rattle.r4_extent_blocks.proofs.setting.+set_runs.Goals as goal

pub returns-in-Some : goal.returns-in-Some
returns-in-Some t c =
    set_both _ _ _ (rank c.args.lo.now) _ _ _ (flat_first run_pairs c.args.runs.now c.in-Some.first.now c.in-Some.rest.now c.in-Some.ensures.cases.0) (set_run_at _ _ _ _ _ _ c.as_slice.ensures c.set_run.ensures) c.set_runs.ensures
