use Rattle.std.proofs.Common.{◌≡◌, map, take}
use Rattle.std.specs.Arc.{arc_value}
use Rattle.r4_work.specs.Order.{places_of, without_places}
use Rattle.r4_work.proofs.ordered.OrderedCells.take_out_all.Given as goal

abbrev pub invariant-loop-cell : goal.invariant-loop-cell
invariant-loop-cell l =
    l.self ≡ without_places (places_of (map (λ c. arc_value c) (take l.cell-index l.cells))) l.initial.self
