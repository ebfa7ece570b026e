use Rattle.std.proofs.Common.{◌<◌, ◌≤◌, map, take}
use Rattle.r4_base.specs.Key.{rank}
use Rattle.r4_content.specs.Held.{interval_of}
use Rattle.r4_seeing.specs.Known.{AreNew}
use Rattle.r4_seeing.proofs.gaps.how_far.Given as goal

abbrev pub invariant-loop-interval : goal.invariant-loop-interval
invariant-loop-interval l = (rank l.from < rank l.end) × (rank l.end ≤ rank l.fn.to) × AreNew
    (map interval_of (take l.interval-index l.known)) (rank l.from) (rank l.end)
