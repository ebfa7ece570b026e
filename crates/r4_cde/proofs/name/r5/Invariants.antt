use Rattle.std.proofs.Common.{◌≡◌, drop}
use Rattle.r4_base.specs.Name.{r5_from}
use Rattle.r4_cde.proofs.name.r5.Given as goal

abbrev pub invariant-loop-byte : goal.invariant-loop-byte
invariant-loop-byte l = r5_from l.hash (drop l.byte-index l.bytes) ≡ r5_from 0 l.bytes
