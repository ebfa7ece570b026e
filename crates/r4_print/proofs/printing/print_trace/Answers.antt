use Rattle.r4_print.proofs.Printed.{ends_there, handed_on, one_more}
use Rattle.r4_print.proofs.printing.print_trace.Goals as goal

pub returns-in_err-print_line : goal.returns-in_err-print_line
returns-in_err-print_line g c =
    handed_on _ _ _ c.in_err-print_line.field-0.0 c.from_residual.result c.from_residual.ensures.1
    (ends_there c.args.trace.now.entries c.loop-i.i c.entry.result.now c.entry.ensures _ _ _ c.loop-i.invariant
    c.in_err-print_line.field-0.0 c.in_err-print_line.ensures)

pub loop-i-preserved : goal.loop-i-preserved
loop-i-preserved g c =
    one_more c.args.trace.now.entries c.loop-i.i c.entry.result.now c.entry.ensures _ _ _ c.loop-i.invariant
    c.in_ok-print_line.ensures
