use Rattle.r4_outside.proofs.Moments.{goes_same, goes_both}
use Rattle.r4_stop_tests.proofs.images.write_all.Goals as goal

pub loop-at-init : goal.loop-at-init
loop-at-init c = goes_same _

pub returns-in_err-write_block : goal.returns-in_err-write_block
returns-in_err-write_block c = goes_both _ _ _ c.loop-at.invariant c.write_block.ensures

pub loop-at-preserved : goal.loop-at-preserved
loop-at-preserved c = goes_both _ _ _ c.loop-at.invariant c.write_block.ensures
