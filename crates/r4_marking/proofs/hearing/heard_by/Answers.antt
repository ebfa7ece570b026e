use Rattle.std.proofs.Common.{◌≡◌, map, length, ap, sym, ◌∙◌, arith}
use Rattle.r4_base.specs.Node.{Item}
use Rattle.r4_marking.specs.Marks.{asks_seen, heard_seen}
use Rattle.r4_marking.proofs.Children.{all_heard, heard_more, leaf_silent}
use Rattle.r4_marking.proofs.hearing.heard_by.Goals as goal

pub returns-then-level-eq-LEAF : goal.returns-then-level-eq-LEAF
returns-then-level-eq-LEAF c =
    ap (map heard_seen) c.new-heard.ensures.items ∙ sym (leaf_silent c.args.cell.now (asks_seen c.args.asks.now.entries) (sym c.level.ensures ∙ c.if-level-eq-LEAF.true) c.node-node.ensures.whole c.node-node.ensures.stands)

pub loop-i-preserved : goal.loop-i-preserved
loop-i-preserved c =
    let within = c.loop-i-test.true in
    let count = c.len-i-end.ensures in
    let same = ap length c.node-node.ensures.items in
    heard_more c.args.cell.now (asks_seen c.args.asks.now.entries) c.loop-i.i (map heard_seen c.loop-i.heard.items) _ (omega (arith, within, count, same)) c.loop-i.invariant c.in_ok-hear_at.ensures

pub returns : goal.returns
returns c =
    let past = c.loop-i-test.false in
    let count = c.len-i-end.ensures in
    let same = ap length c.node-node.ensures.items in
    all_heard c.args.cell.now (asks_seen c.args.asks.now.entries) c.loop-i.i (map heard_seen c.loop-i.heard.items) c.requires.node (omega (arith, past, count, same)) c.loop-i.invariant
