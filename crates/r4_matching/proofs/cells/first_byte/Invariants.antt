use Rattle.std.proofs.Common.{◌≡◌, take}
use Rattle.r4_matching.proofs.cells.first_byte.Given as goal

abbrev pub invariant-loop-at : goal.invariant-loop-at
invariant-loop-at l = take l.at l.had ≡ take l.at l.has
