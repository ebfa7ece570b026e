use Rattle.r4_outside.proofs.Moments.{goes_both}
use Rattle.r4_replay.proofs.Placing.{original_below, wandered_below, copied_step, spares_pair}
use Rattle.r4_replay.proofs.place.copy_pairs.Goals as goal

pub copy_one-requires-clause-original : goal.copy_one-requires-clause-original
copy_one-requires-clause-original g c = λ κs lives. original_below (g.D.Device.state c.args.dev.now).blocks _ c.args.pairs.now c.loop-original.original-index (0, 0) c.loop-original.invariant.goes.blocks c.requires.in_range c.loop-original-test.true c.requires.more

pub copy_one-requires-clause-wandered : goal.copy_one-requires-clause-wandered
copy_one-requires-clause-wandered g c = λ κs lives. wandered_below (g.D.Device.state c.args.dev.now).blocks _ c.args.pairs.now c.loop-original.original-index (0, 0) c.loop-original.invariant.goes.blocks c.requires.in_range c.loop-original-test.true

pub returns-in_err-copy_one-clause-spares : goal.returns-in_err-copy_one-clause-spares
returns-in_err-copy_one-clause-spares g c = spares_pair c.args.pairs.now c.loop-original.original-index _ _ _ c.loop-original-test.true c.loop-original.invariant.spares c.loop-original.invariant.goes c.copy_one.ensures.spares c.copy_one.ensures.goes

pub loop-original-preserved : goal.loop-original-preserved
loop-original-preserved g c = record {
  goes = goes_both _ _ _ c.loop-original.invariant.goes c.copy_one.ensures.goes;
  copied = λ tells. copied_step c.args.pairs.now c.loop-original.original-index _ _ _ c.loop-original-test.true (c.loop-original.invariant.copied tells) (c.in_ok-copy_one.ensures.copied (c.loop-original.invariant.goes.reads.1 tells));
  spares = spares_pair c.args.pairs.now c.loop-original.original-index _ _ _ c.loop-original-test.true c.loop-original.invariant.spares c.loop-original.invariant.goes c.copy_one.ensures.spares c.copy_one.ensures.goes;
}
