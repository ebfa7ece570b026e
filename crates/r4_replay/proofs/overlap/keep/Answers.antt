use Rattle.std.proofs.Common.{refl}
use Rattle.r4_replay.proofs.Overlaps.{adds_more}
use Rattle.r4_replay.proofs.overlap.keep.Goals as goal

pub loop-block-preserved : goal.loop-block-preserved
loop-block-preserved c = adds_more _ _ _ _ _ _ 0 c.loop-block-test.true refl c.loop-block.invariant c.in_ok-insert.ensures.updates
