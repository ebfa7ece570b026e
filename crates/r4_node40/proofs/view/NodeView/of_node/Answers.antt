use Rattle.r4_node40.proofs.Faults.{laid_from_good}
use Rattle.r4_node40.proofs.view.NodeView.of_node.Goals as goal

pub invariant_of-result : goal.invariant_of-result
invariant_of-result c = record {
  laid = laid_from_good c.args.block.now c.requires.whole c.requires.good;
  counted = c.get16-count.ensures;
}
