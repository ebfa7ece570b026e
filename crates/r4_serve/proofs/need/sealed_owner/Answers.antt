use Rattle.r4_serve.proofs.Owners.{none_of_all, none_up_to}
use Rattle.r4_serve.proofs.need.sealed_owner.Goals as goal

pub loop-node-preserved : goal.loop-node-preserved
loop-node-preserved c =
    none_up_to c.args.atoms.now c.args.nodes.now c.loop-node.node-index _ c.loop-node-test.true
    c.loop-node.invariant c.in_default.ensures

pub returns : goal.returns
returns c = none_of_all c.args.atoms.now c.args.nodes.now c.loop-node.node-index c.loop-node-test.false
    c.loop-node.invariant
