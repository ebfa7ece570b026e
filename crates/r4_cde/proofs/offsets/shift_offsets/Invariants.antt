use Rattle.r4_cde.specs.Offsets.{ShiftsOffsets}
use Rattle.r4_cde.proofs.offsets.shift_offsets.Given as goal

abbrev pub invariant-loop-i : goal.invariant-loop-i
invariant-loop-i l = ShiftsOffsets l.first l.i l.old l.new l.fn.body l.body
