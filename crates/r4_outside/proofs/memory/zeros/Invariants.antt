use Rattle.std.proofs.Common.{◌≡◌, replicate}
use Rattle.r4_outside.proofs.memory.zeros.Given as goal

abbrev pub invariant-loop-i : goal.invariant-loop-i
invariant-loop-i l = l.blocks.items ≡ replicate l.i (replicate 4096 0)
