-- The cells that stand in memory under nodes (docs/core.md, "Flushing").
use Rattle.std.specs.Prelude.{◌++◌, ◌∷◌, [], List, None, Option, Some}
use Rattle.r4_base.specs.declared.things.NodeId.{NodeId}
use Rattle.r4_buffer.specs.Seen.{BufferSeen, cell_at}
use Rattle.r4_cell.specs.Seen.{CellSeen}

abbrev pub one_cell : Option CellSeen → List CellSeen
one_cell None = []
one_cell (Some x) = x ∷ []

abbrev pub cells_under : BufferSeen → List NodeId → List CellSeen
cells_under b [] = []
cells_under b (n ∷ nodes) = one_cell (cell_at b n.0) ++ cells_under b nodes
