-- Cells in the order of their levels, and within a level of the keys with which they begin (docs/volume.md, "The
-- working set").
use Rattle.std.specs.Prelude.{◌≡◌, ℕ, ◌+◌, ◌*◌, ◌^◌, ◌<◌, ◌≤◌, ◌==◌, ◌&&◌, ◌↔◌, if◌then◌else◌, not, nat_le, nat_lt, map}
use Rattle.std.specs.Prelude.{Bool, List, [], ◌∷◌, Contains, Option, None, Some}
use Rattle.std.specs.List.{filter}
use Rattle.std.specs.List.Sorted.{IsNonDecreasingBy}
use Rattle.std.specs.Option.{option_or}
use Rattle.r4_base.specs.Key.{rank, top}
use Rattle.r4_edit.specs.r4_cell.Seen.{CellSeen}
use Rattle.r4_edit.specs.r4_patch.Following.{is_among}

-- where a cell of a level that begins with a key stands: the level counts first
unfoldable pub place_of : (level key : ℕ) → ℕ
place_of level key = level * 2 ^ 256 + key

abbrev pub place : CellSeen → ℕ
place c = place_of c.level (rank c.lo)

abbrev pub AreInOrder : List CellSeen → Type 0
AreInOrder cells = IsNonDecreasingBy place cells

-- the cell has the level, and the key lies in its range
abbrev pub is_at : (level k : ℕ) → CellSeen → Bool
is_at level k c = c.level == level && nat_le (rank c.lo) k && nat_lt k (rank c.hi)

-- the last of the cells of a level that has the key
abbrev pub cell_at : List CellSeen → (level k : ℕ) → Option CellSeen
cell_at [] level k = None
cell_at (c ∷ cells) level k =
    option_or (cell_at cells level k) (if is_at level k c then Some c else None)

-- the key lies in the cell's range
abbrev pub HasKey : CellSeen → ℕ → Type 0
HasKey c k = (rank c.lo ≤ k) × (k < rank c.hi)

-- It is one of the cells, has the level, and the key lies in its range.
pub record IsAt (cells : List CellSeen) (level k : ℕ) (c : CellSeen) : Type 0 where
  pub among : Contains cells c
  pub level_is : c.level ≡ level
  pub range : HasKey c k

-- Each of the cells has a range of keys, and two of one level that have a key in common have one range.
pub record AreRangesApart (cells : List CellSeen) : Type 0 where
  pub some : (c : CellSeen) → Contains cells c → (rank c.lo < rank c.hi) × (rank c.hi ≤ top)
  pub one : (b c : CellSeen) (k : ℕ) → Contains cells b → Contains cells c → b.level ≡ c.level
      → HasKey b k → HasKey c k → (rank b.lo ≡ rank c.lo) × (rank b.hi ≡ rank c.hi)

abbrev pub places_of : List CellSeen → List ℕ
places_of cells = map place cells

-- the cells but those that stand at one of these places
abbrev pub without_places : (places : List ℕ) → List CellSeen → List CellSeen
without_places places cells = filter (λ c. not (is_among places (place c))) cells

-- A cell of the first list stands at the place of one of the second if it has its number, and only then.
abbrev pub AreNamedByPlace : (cells others : List CellSeen) → Type 0
AreNamedByPlace cells others =
    (c d : CellSeen) → Contains cells c → Contains others d → (place c ≡ place d) ↔ (c.id ≡ d.id)
