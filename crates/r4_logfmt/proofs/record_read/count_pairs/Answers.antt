use Rattle.r4_logfmt.proofs.Pairs.{counted_none, counted_more, counted_stop, counted_all}
use Rattle.r4_logfmt.proofs.record_read.count_pairs.Goals as goal

pub loop-i-init : goal.loop-i-init
loop-i-init c = counted_none c.args.b.now

pub loop-i-preserved : goal.loop-i-preserved
loop-i-preserved c = counted_more c.args.b.now c.loop-i.i c.get64.result c.loop-i-test.true c.get64.ensures c.if-get64-eq0.false c.loop-i.invariant

pub returns-then-get64-eq0 : goal.returns-then-get64-eq0
returns-then-get64-eq0 c = counted_stop c.args.b.now c.loop-i.i c.get64.result c.loop-i-test.true c.get64.ensures c.if-get64-eq0.true c.loop-i.invariant

pub returns : goal.returns
returns c = counted_all c.args.b.now c.loop-i.i c.loop-i-test.false c.loop-i.auto.i-end c.loop-i.invariant
