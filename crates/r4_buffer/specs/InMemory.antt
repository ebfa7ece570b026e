-- What the cells in memory say of a name that is asked for (docs/buffer.md).
use Rattle.std.specs.Prelude.{◌≡◌, true, false, Some, None}
use Rattle.std.specs.Arc.{arc_value}
use Rattle.r4_base.specs.Tree.{Name}
use Rattle.r4_search.specs.Pool.{place_fault}
use Rattle.r4_search.specs.r4_cell.Seen.{CellSeen}
use Rattle.r4_buffer.specs.Seen.{BufferSeen, cell_at, is_captured}
use Rattle.r4_buffer.specs.declared.reading.InMemory.{InMemory}
use Rattle.r4_buffer.specs.declared.reading.InMemory.TheVariants.{Absent, Fits, Refused}

-- the cell of the name is refused by this, and captured
abbrev pub IsInMemory : BufferSeen → Name → InMemory → Type 0
IsInMemory b n (Fits cell) =
    (cell_at b n.id ≡ Some (arc_value cell.now)) × (place_fault n (arc_value cell.now) ≡ None)
IsInMemory b n (Refused fault) =
    (is_captured b n.id ≡ true)
    × ((c : CellSeen) × (cell_at b n.id ≡ Some c) × (place_fault n c ≡ Some fault))
IsInMemory b n Absent = is_captured b n.id ≡ false
