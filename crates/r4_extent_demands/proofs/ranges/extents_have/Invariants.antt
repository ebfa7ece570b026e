use Rattle.r4_extent_demands.proofs.Ahead.{AreAhead}
use Rattle.r4_extent_demands.proofs.ranges.extents_have.Given as goal

abbrev pub invariant-loop-i : goal.invariant-loop-i
invariant-loop-i l = AreAhead l.way l.node l.i
