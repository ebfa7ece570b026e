use Rattle.std.proofs.Common.{◌≡◌, drop, map}
use Rattle.r4_content.specs.Held.{interval_of}
use Rattle.r4_leaf_demands.specs.r4_reach.Touched.{body_key}
use Rattle.r4_bodies.proofs.finding.first_of_intervals.Given as goal

abbrev pub invariant-loop-interval : goal.invariant-loop-interval
invariant-loop-interval l =
    body_key (map interval_of l.intervals) ≡ body_key (map interval_of (drop l.interval-index l.intervals))
