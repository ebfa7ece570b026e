use Rattle.r4_base.specs.Key.{rank}
use Rattle.r4_content.specs.Held.{run_pairs}
use Rattle.r4_extent_blocks.proofs.Sets.{all_first, all_rest, flat_first}
use Rattle.r4_extent_blocks.proofs.finding.+runs_over.Goals as goal

pub returns-then-run_covers : goal.returns-then-run_covers
returns-then-run_covers t c = λ e. all_first _ _ _ (rank c.args.lo.now) (flat_first run_pairs c.args.runs.now c.in-Some.first.now c.in-Some.rest.now c.in-Some.ensures.cases.0) (c.run_covers.ensures c.if-run_covers.true)

pub returns-else-run_covers : goal.returns-else-run_covers
returns-else-run_covers t c = λ e. all_rest _ _ _ (rank c.args.lo.now) (flat_first run_pairs c.args.runs.now c.in-Some.first.now c.in-Some.rest.now c.in-Some.ensures.cases.0) (c.runs_over.ensures e)
