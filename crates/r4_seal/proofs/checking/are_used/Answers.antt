use Rattle.std.proofs.lemmas.List.Elements.{All-more}
use Rattle.r4_seal.proofs.Taken.{all_there}
use Rattle.r4_seal.specs.Checked.{IsUsedNode}
use Rattle.r4_seal.proofs.checking.are_used.Goals as goal

pub loop-node-preserved : goal.loop-node-preserved
loop-node-preserved c = All-more (IsUsedNode c.args.space.now) c.args.nodes.now c.loop-node.node-index (record { 0 = 0 })
    c.loop-node-test.true c.loop-node.invariant (c.is_used.ensures c.if-not-is_used.false)

pub returns : goal.returns
returns c ok =
    all_there (IsUsedNode c.args.space.now) c.args.nodes.now c.loop-node.node-index c.loop-node-test.false
    c.loop-node.invariant
