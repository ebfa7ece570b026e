use Rattle.std.proofs.Common.{◌≡◌, drop, map}
use Rattle.r4_content.specs.Held.{interval_of}
use Rattle.r4_content.specs.Listed.{list_cut}
use Rattle.r4_summary.specs.Kept.{AreKept, pairs_in}
use Rattle.r4_summary.proofs.kept.cut_all.Given as goal

abbrev pub invariant-loop-interval : goal.invariant-loop-interval
invariant-loop-interval l =
    AreKept l.parts.items
    × (list_cut (map interval_of (drop l.interval-index l.intervals)) (pairs_in l.parts.items) ≡ list_cut (map interval_of l.fn.intervals) (pairs_in l.fn.parts.items))
