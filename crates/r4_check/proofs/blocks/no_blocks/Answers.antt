use Rattle.std.proofs.Common.{arith}
use Rattle.r4_check.proofs.BlockSets.{none_marked}
use Rattle.r4_check.proofs.blocks.no_blocks.Goals as goal

pub returns-clause-none : goal.returns-clause-none
returns-clause-none c b lt = none_marked c.args.blocks b _ (λ i less. let end = c.loop-n-test.false in let is = c.bitmap_count-n-end.ensures in c.loop-n.invariant.1 i (omega (arith, less, end, is))) lt
