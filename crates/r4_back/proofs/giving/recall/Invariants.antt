use Rattle.std.proofs.Common.{◌≡◌, length}
use Rattle.r4_back.specs.Backing.{Recalls}
use Rattle.r4_back.proofs.giving.recall.Given as goal

abbrev pub invariant-loop-at : goal.invariant-loop-at
invariant-loop-at g l = Recalls l.fn.core l.at l.core × (length l.core.turns.turns ≡ length l.fn.core.turns.turns)
