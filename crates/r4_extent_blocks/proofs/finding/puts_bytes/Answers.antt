use Rattle.r4_base.specs.Key.{rank}
use Rattle.r4_extent_blocks.proofs.Sets.{parts_two, tells_first, tells_rest}
use Rattle.r4_extent_blocks.proofs.finding.puts_bytes.Goals as goal

pub returns-then-puts_fills : goal.returns-then-puts_fills
returns-then-puts_fills c = tells_first _ _ _ (rank c.args.lo.now) (parts_two c.args.edits.now _ c.as_slice.ensures.value) _ c.puts_fills.ensures c.if-puts_fills.true

pub returns-else-puts_fills : goal.returns-else-puts_fills
returns-else-puts_fills c = tells_rest _ _ _ (rank c.args.lo.now) (parts_two c.args.edits.now _ c.as_slice.ensures.value) _ _ c.puts_fills.ensures c.if-puts_fills.false c.puts_one_by_one.ensures
