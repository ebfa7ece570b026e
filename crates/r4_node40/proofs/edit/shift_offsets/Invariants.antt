use Rattle.r4_node40.proofs.Splices.{Shifted}
use Rattle.r4_node40.proofs.edit.shift_offsets.Given as goal

abbrev pub invariant-loop-i : goal.invariant-loop-i
invariant-loop-i l = Shifted l.first l.count l.old l.new l.i l.fn.b l.b
