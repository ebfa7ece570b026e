use Rattle.std.proofs.Common.{◌≡◌, ◌++◌, drop}
use Rattle.r4_dir.specs.Entries.{names_among}
use Rattle.r4_dir.proofs.entries.collect_names.Given as goal

abbrev pub invariant-loop-part : goal.invariant-loop-part
invariant-loop-part l = l.names.items ++ names_among l.dir.0 (drop l.part-index l.parts) ≡ names_among l.dir.0 l.parts
