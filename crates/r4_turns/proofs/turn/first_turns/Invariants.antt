use Rattle.std.proofs.Common.{◌≡◌}
use Rattle.std.specs.Prelude.{replicate}
use Rattle.r4_turns.specs.Turns.{start}
use Rattle.r4_turns.proofs.turn.first_turns.Given as goal

abbrev pub invariant-loop : goal.invariant-loop
invariant-loop l = l.turns.items ≡ replicate l.counter start
