use Rattle.std.proofs.Common.{ℕ, Ok, take}
use Rattle.r4_check.specs.Looking.{Steps, Tells}
use Rattle.r4_check.specs.Walk.{with_faults}
use Rattle.r4_check.proofs.objects.tell_all.Given as goal

abbrev pub invariant-loop-fault : goal.invariant-loop-fault
invariant-loop-fault g l = Tells {T = Unit {0}} (g.K.Sink.state l.fn.out) l.fn.tally (Ok tt) (g.K.Sink.state l.out) l.tally
    × ((blocks : ℕ) → Steps {T = Unit {0}} blocks (g.K.Sink.state l.fn.out) l.fn.tally (Ok tt) (g.K.Sink.state l.out) l.tally (with_faults (take l.fault-index l.faults)))
