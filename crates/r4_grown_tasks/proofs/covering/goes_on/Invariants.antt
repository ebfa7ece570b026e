use Rattle.std.proofs.Common.{◌≡◌, drop, map}
use Rattle.r4_base.specs.Key.{rank}
use Rattle.r4_content.specs.Held.{interval_of}
use Rattle.r4_grown_tasks.specs.Places.{goes_on}
use Rattle.r4_grown_tasks.proofs.covering.goes_on.Given as goal

abbrev pub invariant-loop-place : goal.invariant-loop-place
invariant-loop-place l = goes_on (map interval_of (drop l.place-index l.fn.places)) (rank l.at)
    ≡ goes_on (map interval_of l.fn.places) (rank l.initial.at)
