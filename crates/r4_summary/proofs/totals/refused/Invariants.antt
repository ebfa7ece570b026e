use Rattle.std.proofs.Common.{◌≡◌, ◌≤◌}
use Rattle.r4_summary.proofs.Steps.{first_ones}
use Rattle.r4_summary.specs.Totals.{refused_in}
use Rattle.r4_summary.proofs.totals.refused.Given as goal

abbrev pub invariant-loop-i : goal.invariant-loop-i
invariant-loop-i l = (l.refused ≡ refused_in (first_ones l.i l.fn.trace.entries)) × (l.refused ≤ l.i)
