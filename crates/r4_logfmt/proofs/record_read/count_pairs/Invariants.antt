use Rattle.std.proofs.Common.{◌≡◌, ◌+◌, ◌-◌, length}
use Rattle.r4_base.specs.Log.{pairs_of, pairs_from}
use Rattle.r4_logfmt.proofs.record_read.count_pairs.Given as goal

abbrev pub invariant-loop-i : goal.invariant-loop-i
invariant-loop-i l = length (pairs_of l.b) ≡ l.i + length (pairs_from (254 - l.i) l.i l.b)
