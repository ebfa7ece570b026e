use Rattle.std.proofs.Common.{◌≡◌, drop}
use Rattle.r4_flushing.specs.r4_renaming.Renaming.{name_then}
use Rattle.r4_core.proofs.sealing.new_name.Given as goal

abbrev pub invariant-loop-one : goal.invariant-loop-one
invariant-loop-one l = name_then l.renamed l.name.0 ≡ name_then (drop l.one-index l.renamed) l.name.0
