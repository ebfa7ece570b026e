-- A row of nodes that is packed anew (docs/volume.md, "Edits").
use Rattle.std.specs.Prelude.{◌≡◌, ℕ, ◌+◌, ◌-◌, ◌*◌, ◌<◌, ◌≤◌, List, ◌++◌, length, map, take, Contains}
use Rattle.r4_base.specs.Node.{Item, mkfs_id_of}
use Rattle.r4_cell.specs.Seen.{CellSeen}
use Rattle.r4_cell.specs.declared.change.Fresh.{Fresh}
use Rattle.r4_patch.specs.Joining.{ids_of}
use Rattle.r4_path.specs.Nodes.{pointer_item}
use Rattle.r4_path.specs.Sharing.{items_of_cells}
use Rattle.r4_path.specs.Steps.{CountUp}
use Rattle.r4_rows.specs.Pointers.{PointsBelow}
use Rattle.r4_squeeze.specs.Packing.{first_mkfs_id}
use Rattle.r4_row_edit.specs.Over.{StandsOver}

-- the row's items, with pointers to what comes in the place of those to what goes
abbrev pub items_over : (l : ℕ) (gone row come : List CellSeen) → StandsOver l gone row → List Item
items_over l gone row come s = s.before ++ (map pointer_item come ++ s.behind)

-- The nodes are a row over the cells that come, with the row's other items in their order; they are as few as hold them,
-- with the row's numbers from the left on, and then fresh ones.
pub record IsRepacked (l : ℕ) (row gone come : List CellSeen) (before after : Fresh) (cells : List CellSeen) : Type 0
  where
    pub points : PointsBelow l (record { old = gone; new = come }) (record { old = row; new = cells })
    pub few : 88 * length cells < length (items_of_cells cells) + 88
    pub grows : length cells ≤ length row + (length come - length gone)
    pub taken : List ℕ
    pub ids : ids_of cells ≡ take (length cells) (ids_of row) ++ taken
    pub count : CountUp before.next taken
    pub left : after ≡ record before { next = before.next + length taken }
    pub mkfs_id : (c : CellSeen) → Contains cells c → mkfs_id_of c.block ≡ first_mkfs_id row
