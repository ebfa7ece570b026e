use Rattle.std.proofs.Common.{Ok}
use Rattle.r4_print.proofs.Printed.{Adds, lines_before}
use Rattle.r4_print.proofs.printing.print_trace.Given as goal

abbrev pub invariant-loop-i : goal.invariant-loop-i
invariant-loop-i g l =
    Adds (lines_before l.i l.fn.trace.entries) (g.K.Sink.state l.fn.out) (Ok tt) (g.K.Sink.state l.out)
