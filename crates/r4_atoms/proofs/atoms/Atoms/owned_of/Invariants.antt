use Rattle.std.proofs.Common.{◌≡◌}
use Rattle.std.proofs.Common.{filter, take}
use Rattle.r4_atoms.specs.Atoms.{numbers, owns}
use Rattle.r4_atoms.proofs.atoms.Atoms.owned_of.Given as goal

abbrev pub invariant-loop-node : goal.invariant-loop-node
invariant-loop-node l = numbers l.nodes.items ≡ filter (owns l.self l.atom.0) (take l.node-index l.all)
