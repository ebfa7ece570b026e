use Rattle.std.proofs.Common.{◌≡◌, map, take}
use Rattle.std.specs.Arc.{arc_value}
use Rattle.r4_cell.specs.Seen.{CellSeen}
use Rattle.r4_closed.proofs.closed.sorted_ids.Given as goal

abbrev pub invariant-loop-cell : goal.invariant-loop-cell
invariant-loop-cell l = l.ids.items
    ≡ map (λ (x : CellSeen). x.id) (map (λ c. arc_value c) (take l.cell-index l.cells))
