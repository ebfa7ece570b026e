use Rattle.std.proofs.Common.{◌≡◌, take}
use Rattle.r4_renaming.specs.Steps.{name_in, nodes_under}
use Rattle.r4_renaming.proofs.pins.new_nodes.Given as goal

abbrev pub invariant-loop-node : goal.invariant-loop-node
invariant-loop-node l = l.new.items ≡ nodes_under (name_in l.names) (take l.node-index l.nodes)
