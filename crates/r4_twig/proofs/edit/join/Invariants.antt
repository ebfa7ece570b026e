use Rattle.r4_twig.proofs.Merges.{IsJoinedSoFar}
use Rattle.r4_twig.proofs.edit.join.Given as goal

abbrev pub invariant-loop-i : goal.invariant-loop-i
invariant-loop-i l = IsJoinedSoFar l.fn.body l.used l.body l.last l.end l.i
