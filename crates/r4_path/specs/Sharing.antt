-- Cells in the place of one, which share out its range and the items that are to stand there (docs/volume.md, "Edits").
use Rattle.std.specs.Prelude.{◌≡◌, ℕ, ◌+◌, ◌^◌, ◌<◌, ◌≤◌, List, [], ◌∷◌, ◌++◌, Contains, drop, length, true, None}
use Rattle.r4_base.specs.Cell.{cell_fault, items_in_fault}
use Rattle.r4_base.specs.Key.{rank}
use Rattle.r4_base.specs.Node.{Item, items_of, mkfs_id_of}
use Rattle.r4_patch.specs.r4_cell.Seen.{CellSeen}
use Rattle.r4_patch.specs.r4_cell.declared.change.Fresh.{Fresh}
use Rattle.r4_patch.specs.Joining.{ids_of}
use Rattle.r4_path.specs.Nodes.{weight}
use Rattle.r4_path.specs.Rows.{IsNarrow, IsRow, row_items, row_level}
use Rattle.r4_path.specs.Steps.{CountUp, Follow}
use Rattle.r4_path.specs.declared.row.Row.{Row}

-- the items of all the cells, one after the other
abbrev pub items_of_cells : List CellSeen → List Item
items_of_cells [] = []
items_of_cells (c ∷ cells) = items_of c.block ++ items_of_cells cells

-- The cell may stand at its level and for its range, in memory.
pub record IsSound (c : CellSeen) : Type 0 where
  pub whole : length c.block ≡ 4096
  pub accepted : cell_fault true (2 ^ 64) c.level (rank c.lo) (rank c.hi) c.block ≡ None

-- The cells have these items, and share out the range of the old cell; the first has its name, and the others the next numbers.
-- All have its mkfs_id.
pub record HasItems (old : CellSeen) (items : List Item) (next : ℕ) (cells : List CellSeen) : Type 0 where
  pub first : ids_of cells ≡ old.id ∷ ids_of (drop 1 cells)
  pub ranges : Follow old.level (rank old.lo) (rank old.hi) cells
  pub items_are : items_of_cells cells ≡ items
  pub sound : (c : CellSeen) → Contains cells c → IsSound c
  pub fresh : CountUp next (ids_of (drop 1 cells))
  pub mkfs_id : (c : CellSeen) → Contains cells c → mkfs_id_of c.block ≡ mkfs_id_of old.block

-- each of the cells has items of 1024 bytes or more
abbrev pub AreFilled : List CellSeen → Type 0
AreFilled cells = (c : CellSeen) → Contains cells c → 1024 ≤ weight (items_of c.block)

-- none of the cells is without items
abbrev pub AreSome : List CellSeen → Type 0
AreSome cells = (c : CellSeen) → Contains cells c → 1 ≤ length (items_of c.block)

-- One cell has the items, or two, where they do not fit into one; then a number was taken, and above level 2 neither is small.
pub record Shares (old : CellSeen) (items : List Item) (before after : Fresh) (cells : List CellSeen) : Type 0 where
  pub has : HasItems old items before.next cells
  pub number : after ≡ record before { next = before.next + length (drop 1 cells) }
  pub few : (weight items ≤ 4068 → length cells ≡ 1) × (4068 < weight items → length cells ≡ 2)
  pub filled : 3 ≤ old.level → length cells ≡ 2 → AreFilled cells

-- The items may stand in the place of the cell's, room apart, and the mkfs_id is its.
pub record IsRowOf (old : CellSeen) (w : Row) : Type 0 where
  pub row : IsRow w
  pub narrow : IsNarrow w
  pub level : old.level ≡ row_level w
  pub branch : 1 ≤ old.level
  pub range : rank old.lo < rank old.hi
  pub some : 1 ≤ length (row_items w)
  pub good : items_in_fault true (2 ^ 64) old.level (rank old.lo) (rank old.hi) 0 (row_items w) ≡ None
  pub mkfs_id : w.mkfs_id ≡ mkfs_id_of old.block
