use Rattle.std.proofs.Common.{◌≡◌, ◌≤◌, ◌+◌, drop}
use Rattle.std.specs.Prelude.{sum_by}
use Rattle.r4_summary.specs.Totals.{stats_in}
use Rattle.r4_summary.proofs.totals.objects.Given as goal

abbrev pub invariant-loop-part : goal.invariant-loop-part
invariant-loop-part l =
    (l.objects + sum_by stats_in (drop l.part-index l.parts) ≡ sum_by stats_in l.fn.parts) × (l.objects ≤ l.part-index)
