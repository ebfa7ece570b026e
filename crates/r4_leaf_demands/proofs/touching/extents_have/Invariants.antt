use Rattle.std.proofs.Common.{map}
use Rattle.r4_content.specs.Held.{edits_of, interval_of}
use Rattle.r4_leaf_demands.proofs.Spans.{AreAhead}
use Rattle.r4_leaf_demands.proofs.touching.extents_have.Given as goal

abbrev pub invariant-loop-i : goal.invariant-loop-i
invariant-loop-i l = AreAhead l.way (edits_of l.edits) (map interval_of l.reads) l.cell l.i
