use Rattle.r4_summary.proofs.Steps.{first_ones}
use Rattle.r4_summary.specs.Kept.{Keeps}
use Rattle.r4_summary.specs.Totals.{made_by}
use Rattle.r4_summary.proofs.following.all_done.Given as goal

abbrev pub invariant-loop-i : goal.invariant-loop-i
invariant-loop-i l = Keeps l.seen.parts.items (made_by (first_ones l.i l.fn.trace.entries))
