use Rattle.std.proofs.Common.{◌≡◌, map, take}
use Rattle.std.specs.Prelude.{Contains}
use Rattle.std.specs.Arc.{arc_value}
use Rattle.r4_cell.specs.Seen.{CellSeen}
use Rattle.r4_path.specs.Sharing.{IsSound, items_of_cells}
use Rattle.r4_squeeze.specs.Items.{items_meant}
use Rattle.r4_squeeze.proofs.squeezing.items_of_all.Given as goal

abbrev pub invariant-loop-cell : goal.invariant-loop-cell
invariant-loop-cell l = (items_meant l.items.items
    ≡ items_of_cells (map (λ c. arc_value c) (take l.cell-index l.slum)))
    × ((x : CellSeen) → Contains (map (λ c. arc_value c) (take l.cell-index l.slum)) x → IsSound x)
