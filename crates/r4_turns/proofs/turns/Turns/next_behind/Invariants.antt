use Rattle.r4_turns.specs.Kept.{IsFirstUpTo}
use Rattle.r4_turns.proofs.turns.Turns.next_behind.Given as goal

abbrev pub invariant-loop-i : goal.invariant-loop-i
invariant-loop-i l = IsFirstUpTo l.self l.last l.i l.best
