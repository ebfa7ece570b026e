-- What one step reads, over the cells in memory and the device (docs/buffer.md).
use Rattle.std.specs.Prelude.{◌≡◌, ℕ, ◌||◌, true, false, Contains, Option, Some, None, if◌then◌else◌, nat_lt}
use Rattle.r4_base.specs.Cell.{cell_fault}
use Rattle.r4_base.specs.Image.{block_at}
use Rattle.r4_base.specs.Key.{rank}
use Rattle.r4_base.specs.Tree.{Name}
use Rattle.r4_outside.specs.Device.{State, TellsReads}
use Rattle.r4_search.specs.r4_cell.Seen.{CellSeen, node_of}
use Rattle.r4_search.specs.OnDevice.{Places}
use Rattle.r4_buffer.specs.Seen.{BufferSeen, EntrySeen, buffered, cell_at, is_captured}

-- the cell of a name that is captured
abbrev pub captured_in : BufferSeen → ℕ → Option CellSeen
captured_in b i = if is_captured b i then cell_at b i else None

-- Those that are captured are kept beforehand, and each other name means its block of the device.
abbrev pub reading_places : (root : Name) → BufferSeen → (blocks : ℕ) → Places
reading_places root b blocks = record { root = root; blocks = blocks; home = λ i. i; kept = captured_in b }

-- what a cell names is a block of the volume, or captured
abbrev pub NamesStand : BufferSeen → (blocks : ℕ) → CellSeen → Type 0
NamesStand b blocks c = (n : Name) → Contains (node_of c).names n
    → (nat_lt n.id blocks || is_captured b n.id) ≡ true

-- Cells in memory from which a step can read, on a volume of so many blocks: one that is not
-- captured is accepted on disk, and where the device tells what reading gives, it is the block of
-- its name there; what a captured one names is a block or captured.
pub record IsReadable (d : State) (b : BufferSeen) (blocks : ℕ) : Type 0 where
  pub accepted : (i : ℕ) (e : EntrySeen) → buffered b i ≡ Some e → is_captured b i ≡ false
      → cell_fault false blocks e.cell.level (rank e.cell.lo) (rank e.cell.hi) e.cell.block ≡ None
  pub same : TellsReads d → (i : ℕ) (e : EntrySeen)
      → buffered b i ≡ Some e → is_captured b i ≡ false
      → e.cell.block ≡ block_at d.seen i
  pub names : (i : ℕ) (e : EntrySeen) → buffered b i ≡ Some e → is_captured b i ≡ true
      → NamesStand b blocks e.cell

-- each entry stands under its cell's name
abbrev pub AreNamed : BufferSeen → Type 0
AreNamed b = (i : ℕ) (e : EntrySeen) → buffered b i ≡ Some e → e.cell.id ≡ i
