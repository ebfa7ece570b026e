use Rattle.std.proofs.Common.{◌≡◌, drop, map}
use Rattle.std.specs.List.{list_all}
use Rattle.r4_content.specs.Held.{interval_of}
use Rattle.r4_grown_tasks.specs.Places.{lies}
use Rattle.r4_grown_tasks.proofs.covering.zeros_lie.Given as goal

abbrev pub invariant-loop-zero : goal.invariant-loop-zero
invariant-loop-zero l = list_all (lies (map interval_of l.fn.places)) (map interval_of l.fn.zeros)
    ≡ list_all (lies (map interval_of l.fn.places)) (map interval_of (drop l.zero-index l.fn.zeros))
