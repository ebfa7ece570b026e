-- What contracts see of the cells in memory (docs/buffer.md). A key is its rank.
use Rattle.std.specs.Prelude.{◌≡◌, ◌⊎◌, ℕ, ◌==◌, ◌&&◌, ◌||◌, not, nat_eq, nat_le, nat_lt, List, Bool, true, false, Option, Some, None, count_by, map}
use Rattle.std.specs.Arc.{arc_value}
use Rattle.std.specs.declared.sync.Arc as arc_declared
use Rattle.std.specs.Global.{Global}
use Rattle.std.specs.List.{list_any, IsDistinct}
use Rattle.std.specs.Map.{keys_of, values_of, lookup}
use Rattle.std.specs.Option.{option_map}
use Rattle.r4_base.specs.Key.{rank}
use Rattle.r4_search.specs.r4_cell.Seen.{CellSeen}

-- a cell, how many tasks that are out use it, and whether an atom owns it
pub record EntrySeen : Type 0 where
  pub cell : CellSeen
  pub uses : ℕ
  pub dirty : Bool

-- the entries by their names, and for how many more cells there is room
pub record BufferSeen : Type 0 where
  pub entries : List (ℕ × EntrySeen)
  pub spare : ℕ

-- the entry of a name
abbrev pub buffered : BufferSeen → ℕ → Option EntrySeen
buffered b i = lookup (nat_eq i) b.entries

-- the cells that are shared
abbrev pub cells_of : List (arc_declared.Arc CellSeen Global) → List CellSeen
cells_of cells = map (λ c. arc_value c) cells

abbrev pub cell_at : BufferSeen → ℕ → Option CellSeen
cell_at b i = option_map (λ e. e.cell) (buffered b i)

-- no name has two entries, and each entry stands under its cell's name
pub record IsLawful (b : BufferSeen) : Type 0 where
  pub unique : IsDistinct nat_eq (keys_of b.entries)
  pub named : (i : ℕ) (e : EntrySeen) → buffered b i ≡ Some e → e.cell.id ≡ i

abbrev pub is_dirty_by : Option EntrySeen → Bool
is_dirty_by None = false
is_dirty_by (Some e) = e.dirty

-- neither dirty nor used
abbrev pub is_idle : EntrySeen → Bool
is_idle e = not e.dirty && e.uses == 0

abbrev pub idle_count : BufferSeen → ℕ
idle_count b = count_by is_idle (values_of b.entries)

-- a is an ancestor of c, by range: its level is higher, and its range has the least key of c
abbrev pub is_above : (a c : CellSeen) → Bool
is_above a c =
    nat_lt c.level a.level && (nat_le (rank a.lo) (rank c.lo) && nat_lt (rank c.lo) (rank a.hi))

-- whether a cell is an ancestor of a dirty one
abbrev pub is_above_dirty : BufferSeen → CellSeen → Bool
is_above_dirty b a = list_any (λ e. e.dirty && is_above a e.cell) (values_of b.entries)

abbrev pub is_captured_by : BufferSeen → Option EntrySeen → Bool
is_captured_by b None = false
is_captured_by b (Some e) = e.dirty || is_above_dirty b e.cell

-- whether the cell of a name is dirty, or an ancestor of a dirty one
abbrev pub is_captured : BufferSeen → ℕ → Bool
is_captured b i = is_captured_by b (buffered b i)

-- whether a cell is neither used nor captured
abbrev pub is_loose : BufferSeen → EntrySeen → Bool
is_loose b e = is_idle e && not (is_above_dirty b e.cell)

-- the same, said of the entries
pub record IsAncestor (b : BufferSeen) (a : CellSeen) : Type 0 where
  pub name : ℕ
  pub entry : EntrySeen
  pub is : buffered b name ≡ Some entry
  pub dirty : entry.dirty ≡ true
  pub above : is_above a entry.cell ≡ true

pub record IsCaptured (b : BufferSeen) (i : ℕ) : Type 0 where
  pub entry : EntrySeen
  pub is : buffered b i ≡ Some entry
  pub why : (entry.dirty ≡ true) ⊎ IsAncestor b entry.cell

-- two cells of one level and range
pub record StandsAs (c d : CellSeen) : Type 0 where
  pub level : d.level ≡ c.level
  pub lo : rank d.lo ≡ rank c.lo
  pub hi : rank d.hi ≡ rank c.hi

-- there is still a cell of the same level and range
abbrev pub Stays : EntrySeen → Option EntrySeen → Type 0
Stays e None = ⊥
Stays e (Some f) = StandsAs e.cell f.cell
