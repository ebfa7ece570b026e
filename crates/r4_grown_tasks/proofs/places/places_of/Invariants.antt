use Rattle.std.proofs.Common.{◌≡◌, map, take}
use Rattle.std.specs.Arc.{arc_value}
use Rattle.r4_content.specs.Held.{edits_of, interval_of}
use Rattle.r4_grown_tasks.specs.Places.{places}
use Rattle.r4_grown_tasks.proofs.places.places_of.Given as goal

abbrev pub invariant-loop-cell : goal.invariant-loop-cell
invariant-loop-cell l = map interval_of l.places.items
    ≡ places l.fn.body (edits_of l.fn.edits) (map (λ c. arc_value c) (take l.cell-index l.fn.cells))
