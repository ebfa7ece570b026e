use Rattle.std.proofs.Common.{◌≡◌, drop, map}
use Rattle.std.specs.List.{list_all}
use Rattle.r4_content.specs.Held.{interval_of, pair_of}
use Rattle.r4_grown_tasks.specs.Places.{put_lies}
use Rattle.r4_grown_tasks.proofs.covering.values_lie.Given as goal

abbrev pub invariant-loop-value : goal.invariant-loop-value
invariant-loop-value l = list_all (put_lies (map interval_of l.fn.places)) (map pair_of l.fn.values)
    ≡ list_all (put_lies (map interval_of l.fn.places)) (map pair_of (drop l.value-index l.fn.values))
