use Rattle.std.proofs.Common.{◌≡◌, take}
use Rattle.r4_base.specs.Node.{items_of}
use Rattle.r4_marking.specs.r4_path.Nodes.{weight}
use Rattle.r4_leaf_demands.proofs.weighing.node_bytes.Given as goal

abbrev pub invariant-loop-i : goal.invariant-loop-i
invariant-loop-i l = l.bytes ≡ weight (take l.i (items_of l.cell.block))
