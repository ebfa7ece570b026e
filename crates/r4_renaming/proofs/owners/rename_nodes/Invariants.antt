use Rattle.std.proofs.Common.{◌≡◌, ℕ, take}
use Rattle.r4_atoms.specs.Atoms.{owner_of}
use Rattle.r4_renaming.specs.Steps.{OnlyOwnersChange, owner_moved}
use Rattle.r4_renaming.proofs.owners.rename_nodes.Given as goal

abbrev pub invariant-loop-cell : goal.invariant-loop-cell
invariant-loop-cell g l = record {
  owners : (i : ℕ) → owner_of l.atoms i
      ≡ owner_moved g.atom (take l.cell-index l.renamed) i (owner_of l.initial.atoms i);
  rest : OnlyOwnersChange l.initial.atoms l.atoms;
}
