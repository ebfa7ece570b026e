use Rattle.r4_base.specs.Key.{rank}
use Rattle.r4_content.specs.Held.{run_pairs}
use Rattle.r4_extent_blocks.proofs.Sets.{flat_first, tells_first, tells_rest, tells_at}
use Rattle.r4_extent_blocks.proofs.finding.+puts_runs.Goals as goal

pub returns-then-runs_into : goal.returns-then-runs_into
returns-then-runs_into t c =
    tells_first _ _ _ (rank c.args.lo.now) (flat_first run_pairs c.args.runs.now c.in-Some.first.now c.in-Some.rest.now c.in-Some.ensures.cases.0) _ (tells_at _ _ _ _ _ c.as_slice.ensures c.runs_into.ensures) c.if-runs_into.true

pub returns-else-runs_into : goal.returns-else-runs_into
returns-else-runs_into t c =
    tells_rest _ _ _ (rank c.args.lo.now) (flat_first run_pairs c.args.runs.now c.in-Some.first.now c.in-Some.rest.now c.in-Some.ensures.cases.0) _ _ (tells_at _ _ _ _ _ c.as_slice.ensures c.runs_into.ensures) c.if-runs_into.false c.puts_runs.ensures
