use Rattle.std.proofs.Common.{◌≡◌, take, reverse}
use Rattle.r4_outside.specs.Crash.{IsRedone, number_after}
use Rattle.r4_outside.proofs.memory.crashed.Given as goal

abbrev pub invariant-loop-call : goal.invariant-loop-call
invariant-loop-call l = record {
  redone : IsRedone l.start (reverse (take l.call-index l.calls)) l.moment l.pick l.full.items l.left.items;
  number : l.number ≡ number_after l.pick l.call-index;
}
