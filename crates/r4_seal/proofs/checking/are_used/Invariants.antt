use Rattle.std.proofs.Common.{take}
use Rattle.r4_seal.specs.Checked.{AreUsed}
use Rattle.r4_seal.proofs.checking.are_used.Given as goal

abbrev pub invariant-loop-node : goal.invariant-loop-node
invariant-loop-node l = AreUsed l.space (take l.node-index l.nodes)
