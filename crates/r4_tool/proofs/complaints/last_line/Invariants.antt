use Rattle.r4_tool.specs.Complaints.{LacksFrom}
use Rattle.r4_tool.proofs.complaints.last_line.Given as goal

abbrev pub invariant-loop-at : goal.invariant-loop-at
invariant-loop-at l = LacksFrom l.printed l.at
