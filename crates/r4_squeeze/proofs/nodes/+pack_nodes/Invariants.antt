use Rattle.std.proofs.Common.{length}
use Rattle.r4_squeeze.proofs.nodes.+pack_nodes.Given as goal

abbrev pub decreases-pack_nodes : goal.decreases-pack_nodes
decreases-pack_nodes l = length l.items.now
