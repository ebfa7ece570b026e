use Rattle.r4_base.specs.Key.{rank}
use Rattle.r4_extent_blocks.proofs.Sets.{parts_three, tells_first, tells_rest}
use Rattle.r4_extent_blocks.proofs.finding.sets_bytes.Goals as goal

pub returns-then-sets_zeros : goal.returns-then-sets_zeros
returns-then-sets_zeros c = tells_first _ _ _ (rank c.args.lo.now) (parts_three c.args.edits.now _ c.as_slice.ensures.value) _ c.sets_zeros.ensures c.if-sets_zeros.true

pub returns-else-sets_zeros : goal.returns-else-sets_zeros
returns-else-sets_zeros c = tells_rest _ _ _ (rank c.args.lo.now) (parts_three c.args.edits.now _ c.as_slice.ensures.value) _ _ c.sets_zeros.ensures c.if-sets_zeros.false c.puts_bytes.ensures
