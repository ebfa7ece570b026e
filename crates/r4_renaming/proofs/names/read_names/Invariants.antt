use Rattle.std.proofs.Common.{◌≡◌, ℕ, take}
use Rattle.r4_renaming.specs.Renaming.{name_then}
use Rattle.r4_renaming.specs.Steps.{name_in}
use Rattle.r4_renaming.proofs.names.read_names.Given as goal

abbrev pub invariant-loop-cell : goal.invariant-loop-cell
invariant-loop-cell l = (i : ℕ) → name_in l.names i ≡ name_then (take l.cell-index l.renamed) i
