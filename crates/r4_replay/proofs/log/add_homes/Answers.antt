use Rattle.r4_replay.proofs.Homes.{homes_more}
use Rattle.r4_replay.proofs.log.add_homes.Goals as goal

pub loop-original-preserved : goal.loop-original-preserved
loop-original-preserved c = homes_more c.args.homes.now c.loop-original.homes c.insert.new.self c.args.pairs.now _ c.loop-original-test.true c.loop-original.invariant c.in_ok-insert.ensures.updates
