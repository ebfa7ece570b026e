use Rattle.std.proofs.Common.{◌≡◌, ◌++◌, take}
use Rattle.r4_renaming.specs.Steps.{new_nodes}
use Rattle.r4_renaming.proofs.owners.add_new.Given as goal

abbrev pub invariant-loop-cell : goal.invariant-loop-cell
invariant-loop-cell l = l.nodes.items ≡ l.initial.nodes.items ++ new_nodes (take l.cell-index l.renamed)
