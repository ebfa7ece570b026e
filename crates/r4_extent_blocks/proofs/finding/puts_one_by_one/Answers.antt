use Rattle.std.proofs.Common.{map, refl}
use Rattle.r4_base.specs.Key.{rank}
use Rattle.r4_content.specs.Held.{pair_of}
use Rattle.r4_extent_blocks.specs.Setting.{last_put}
use Rattle.r4_extent_blocks.proofs.Sets.{parts_one, tells_first, tells_rest}
use Rattle.r4_extent_blocks.proofs.finding.puts_one_by_one.Goals as goal

pub returns-then-puts_runs : goal.returns-then-puts_runs
returns-then-puts_runs c = tells_first _ (last_put (map pair_of c.args.edits.now.puts.items)) _ (rank c.args.lo.now) (parts_one c.args.edits.now c.args.edits.now.fills.items _ c.args.edits.now.puts.items refl c.as_slice.ensures.value refl) _ c.puts_runs.ensures c.if-puts_runs.true

pub returns-else-puts_runs : goal.returns-else-puts_runs
returns-else-puts_runs c = tells_rest _ _ _ (rank c.args.lo.now) (parts_one c.args.edits.now c.args.edits.now.fills.items _ _ refl c.as_slice.ensures.value c.as_slice-else-puts_runs.ensures.value) _ _ c.puts_runs.ensures c.if-puts_runs.false c.puts_values.ensures
