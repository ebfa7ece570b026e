use Rattle.r4_base.specs.Key.{rank}
use Rattle.r4_extent_blocks.proofs.Sets.{over_fills, over_runs}
use Rattle.r4_extent_blocks.proofs.finding.covers.Goals as goal

pub returns-then-fills_over : goal.returns-then-fills_over
returns-then-fills_over c = λ e. over_fills c.args.edits.now (rank c.args.lo.now) _ c.as_slice.ensures.value (c.fills_over.ensures c.if-fills_over.true)

pub returns-else-fills_over : goal.returns-else-fills_over
returns-else-fills_over c = λ e. over_runs c.args.edits.now (rank c.args.lo.now) _ c.as_slice-else-fills_over.ensures.value (c.runs_over.ensures e)
