use Rattle.std.proofs.Common.{◌≡◌, drop}
use Rattle.r4_atoms.specs.Owned.{label_of, pairs_of}
use Rattle.r4_atoms.proofs.owners.label_in.Given as goal

abbrev pub invariant-loop-one : goal.invariant-loop-one
invariant-loop-one l = label_of l.node (pairs_of (drop l.one-index l.row)) ≡ label_of l.node (pairs_of l.row)
