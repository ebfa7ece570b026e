-- The rows above a row, up to one cell (docs/volume.md, "Bodies in extents").
use Rattle.std.specs.Prelude.{◌≡◌, ℕ, suc, ◌<◌, ◌≤◌, List, [], ◌∷◌, Contains, Some}
use Rattle.r4_base.specs.Cell.{next_key}
use Rattle.r4_base.specs.Extents.{pointer_of}
use Rattle.r4_base.specs.Key.{rank}
use Rattle.r4_base.specs.Node.{Item}
use Rattle.r4_work.specs.r4_cell.Seen.{CellSeen}
use Rattle.r4_work.specs.r4_path.Steps.{Follow}
use Rattle.r4_row_edit.specs.Climbing.{StandUp}
use Rattle.r4_row_edit.specs.Over.{StandsOver}

-- Cells of a level, one at least, that stand beside each other.
pub record StandBeside (level : ℕ) (cells : List CellSeen) : Type 0 where
  pub lo : ℕ
  pub hi : ℕ
  pub some : lo < hi
  pub along : Follow level lo hi cells

-- Rows over one, up to one cell, each of cells among these.
pub record AreRowsOver (cells : List CellSeen) (level : ℕ) (low : List CellSeen)
    (rows : List (List CellSeen)) : Type 0 where
  pub up : StandUp 0 level low rows
  pub among : (row : List CellSeen) → Contains rows row → (c : CellSeen) → Contains row c
      → Contains cells c

-- A row over one, of cells among these.
pub record IsRowAbove (cells : List CellSeen) (level : ℕ) (low row : List CellSeen) : Type 0 where
  pub over : StandsOver level low row
  pub beside : StandBeside (suc level) row
  pub among : (c : CellSeen) → Contains row c → Contains cells c

-- The cells of a level and nodes of the next one stand beside each other.
pub record MayStandOver (level : ℕ) (low row : List CellSeen) : Type 0 where
  pub branch : 2 ≤ level
  pub below : StandBeside level low
  pub above : StandBeside (suc level) row

-- ---- items that point to cells

pub record PointsTo (x : Item) (c : CellSeen) : Type 0 where
  pub plugin : x.plugin ≡ 3
  pub to : pointer_of x.body ≡ Some c.id
  pub key : rank x.key ≡ rank c.lo

-- the first of the items point to the cells, one after the other, and the next one begins with a
-- key
abbrev pub PointFirst : (hi end : ℕ) → List Item → List CellSeen → Type 0
PointFirst hi end items [] = next_key hi items ≡ end
PointFirst hi end [] (c ∷ cells) = ⊥
PointFirst hi end (x ∷ items) (c ∷ cells) = PointsTo x c × PointFirst hi end items cells
