use Rattle.std.proofs.Common.{◌≡◌, drop, map}
use Rattle.std.specs.Arc.{arc_value}
use Rattle.std.specs.List.{list_any}
use Rattle.r4_content.specs.Held.{edits_of}
use Rattle.r4_grown_tasks.specs.Places.{has_first}
use Rattle.r4_grown_tasks.proofs.places.some_has_first.Given as goal

abbrev pub invariant-loop-cell : goal.invariant-loop-cell
invariant-loop-cell l = list_any (has_first l.fn.body (edits_of l.fn.edits)) (map (λ c. arc_value c) l.fn.cells)
    ≡ list_any (has_first l.fn.body (edits_of l.fn.edits)) (map (λ c. arc_value c) (drop l.cell-index l.fn.cells))
