-- Cells of one level beside each other, among some cells (docs/volume.md, "Bodies in extents").
use Rattle.std.specs.Prelude.{◌≡◌, ℕ, ◌<◌, ◌≤◌, List, Contains}
use Rattle.r4_base.specs.Key.{rank}
use Rattle.r4_work.specs.r4_cell.Seen.{CellSeen}
use Rattle.r4_work.specs.r4_path.Steps.{Follow}

-- It is one of the cells, has the level, and begins with the key.
pub record BeginsAt (cells : List CellSeen) (level key : ℕ) (c : CellSeen) : Type 0 where
  pub among : Contains cells c
  pub level_is : c.level ≡ level
  pub begins : rank c.lo ≡ key
  pub some : key < rank c.hi

-- Cells among these, of a level, that stand beside each other: the first has the key, and the last
-- ends at another.
pub record IsRowFrom (cells : List CellSeen) (level from hi : ℕ)
    (row : List CellSeen) : Type 0 where
  pub lo : ℕ
  pub some : lo < hi
  pub along : Follow level lo hi row
  pub begins : lo ≤ from
  pub among : (c : CellSeen) → Contains row c → Contains cells c

-- They have all keys from one up to another.
pub record IsRowAmong (cells : List CellSeen) (level from to : ℕ)
    (row : List CellSeen) : Type 0 where
  pub hi : ℕ
  pub is : IsRowFrom cells level from hi row
  pub ends : to ≤ hi
