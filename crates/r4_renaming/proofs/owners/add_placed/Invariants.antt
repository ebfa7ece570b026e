use Rattle.std.proofs.Common.{◌≡◌, ◌++◌, take}
use Rattle.std.specs.Prelude.{filter}
use Rattle.r4_renaming.specs.Steps.{is_placed}
use Rattle.r4_renaming.proofs.owners.add_placed.Given as goal

abbrev pub invariant-loop-node : goal.invariant-loop-node
invariant-loop-node l = l.nodes.items ≡ l.initial.nodes.items ++ filter is_placed (take l.node-index l.owned)
