use Rattle.std.proofs.Common.{◌≡◌, ◌++◌, take}
use Rattle.std.specs.Map.{keys_of}
use Rattle.r4_atoms.specs.Owned.{pairs_of}
use Rattle.r4_atoms.proofs.owners.add_nodes.Given as goal

abbrev pub invariant-loop-one : goal.invariant-loop-one
invariant-loop-one l = l.nodes.items ≡ l.initial.nodes.items ++ keys_of (pairs_of (take l.one-index l.row))
