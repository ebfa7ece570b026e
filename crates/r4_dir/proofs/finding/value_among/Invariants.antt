use Rattle.std.proofs.Common.{◌≡◌, drop}
use Rattle.r4_base.specs.Key.{rank}
use Rattle.r4_dir.specs.Finding.{one_at}
use Rattle.r4_dir.proofs.finding.value_among.Given as goal

abbrev pub invariant-loop-part : goal.invariant-loop-part
invariant-loop-part l = one_at l.parts (rank l.key) ≡ one_at (drop l.part-index l.parts) (rank l.key)
