use Rattle.std.proofs.Common.{ap, arith, length}
use Rattle.r4_base.specs.Key.{rank}
use Rattle.r4_extent_asks.proofs.Named.{all_left, left_more}
use Rattle.r4_extent_asks.proofs.left.leaves_to.Goals as goal

pub loop-i-preserved : goal.loop-i-preserved
loop-i-preserved c =
    let within = c.loop-i-test.true in
    let count = c.len-i-end.ensures in
    let same = ap length c.node-node.ensures.items in
    left_more c.args.twig.now (rank c.args.key.now) c.loop-i.i c.loop-i.ids.items _ (omega (arith, within, count, same))
    c.loop-i.invariant c.in_ok-add_left.ensures

pub returns : goal.returns
returns c =
    let past = c.loop-i-test.false in
    let count = c.len-i-end.ensures in
    let same = ap length c.node-node.ensures.items in
    let two = c.requires in
    all_left c.args.twig.now (rank c.args.key.now) c.loop-i.i c.loop-i.ids.items (omega (arith, two))
    (omega (arith, past, count, same)) c.loop-i.invariant
