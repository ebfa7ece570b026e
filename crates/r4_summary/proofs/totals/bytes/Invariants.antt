use Rattle.std.proofs.Common.{◌≡◌, ◌+◌, ◌<◌, ◌^◌, drop}
use Rattle.std.specs.Prelude.{sum_by}
use Rattle.r4_summary.specs.Totals.{counted, size_in}
use Rattle.r4_summary.proofs.totals.bytes.Given as goal

abbrev pub invariant-loop-part : goal.invariant-loop-part
invariant-loop-part l =
    (counted (l.bytes + sum_by size_in (drop l.part-index l.parts)) ≡ counted (sum_by size_in l.fn.parts)) × (l.bytes < 2 ^ 64)
