use Rattle.std.proofs.Common.{take}
use Rattle.r4_atoms.specs.Atoms.{numbers}
use Rattle.r4_serve.specs.Serving.{NoneSealed}
use Rattle.r4_serve.proofs.need.sealed_owner.Given as goal

abbrev pub invariant-loop-node : goal.invariant-loop-node
invariant-loop-node l = NoneSealed l.fn.atoms (numbers (take l.node-index l.fn.nodes))
