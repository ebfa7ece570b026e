use Rattle.std.proofs.Common.{◌-◌, arith}
use Rattle.r4_tool.proofs.Lines.{none_before}
use Rattle.r4_tool.proofs.complaints.last_line.Goals as goal

pub loop-at-preserved : goal.loop-at-preserved
loop-at-preserved c =
    none_before c.args.printed.now (c.loop-at.at - 1) c.loop-at.at (omega arith) c.loop-at.invariant
    c.in_default.ensures

pub returns-in-Some : goal.returns-in-Some
returns-in-Some c = (c.loop-at.at - 1, c.in-Some.ensures, λ at line le. c.loop-at.invariant at line (omega arith))

pub returns : goal.returns
returns c at line le = c.loop-at.invariant at line (omega arith)
