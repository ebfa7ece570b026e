use Rattle.std.proofs.Common.{◌-◌}
use Rattle.r4_cde.proofs.Spelled.{IsSpelledSoFar}
use Rattle.r4_cde.proofs.short.ShortName.spelled_by.Given as goal

abbrev pub invariant-loop-len : goal.invariant-loop-len
invariant-loop-len l = IsSpelledSoFar l.key l.bytes l.len

abbrev pub decreases-loop-len : goal.decreases-loop-len
decreases-loop-len l = 23 - l.len
