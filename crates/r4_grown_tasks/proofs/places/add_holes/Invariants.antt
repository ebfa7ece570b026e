use Rattle.std.proofs.Common.{◌≡◌, ◌++◌, map, take}
use Rattle.std.specs.List.{flat_map}
use Rattle.r4_content.specs.Held.{interval_of}
use Rattle.r4_grown_tasks.specs.Places.{hole_range}
use Rattle.r4_grown_tasks.proofs.places.add_holes.Given as goal

abbrev pub invariant-loop-piece : goal.invariant-loop-piece
invariant-loop-piece l = map interval_of l.places.items
    ≡ map interval_of l.fn.places.items ++ flat_map (hole_range l.fn.body) (take l.piece-index l.fn.pieces)
