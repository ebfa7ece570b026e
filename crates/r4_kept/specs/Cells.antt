-- Group D, the cells in memory, on every image (docs/buffer.md).
use Rattle.std.specs.Prelude.{◌≡◌, ◌⊎◌, ◌↔◌, ◌++◌, ℕ, ◌^◌, ◌<◌, ◌≤◌, true, false, Contains}
use Rattle.std.specs.Prelude.{List, [], length, Option, Some, None, IsSome}
use Rattle.r4_history.specs.r4_atoms.Atoms.{numbers, owner_of}
use Rattle.r4_base.specs.Bitmap.{is_fixed}
use Rattle.r4_base.specs.Cell.{cell_fault}
use Rattle.r4_base.specs.Image.{Image, block_at}
use Rattle.r4_base.specs.Key.{rank}
use Rattle.r4_base.specs.Layout.{IsLawfulSuper}
use Rattle.r4_base.specs.Tree.{Name}
use Rattle.r4_buffer.specs.Reading.{NamesStand}
use Rattle.r4_buffer.specs.Seen.{BufferSeen, EntrySeen, buffered, cell_at, is_captured, is_dirty_by}
use Rattle.r4_history.specs.r4_cell.Seen.{CellSeen, node_of}
use Rattle.r4_durable.specs.r4_commit.Planned.{CommitSeen}
use Rattle.r4_history.specs.Held.{IsOut}
use Rattle.r4_outside.specs.Device.{State, TellsReads}
use Rattle.r4_history.specs.r4_turns.declared.out.Out.{Out}
use Rattle.r4_durable.specs.r4_wander.Parts.{base_of, part}
use Rattle.r4_durable.specs.r4_wander.Progress.{FitOn, ReadsAs, under_way}
use Rattle.r4_durable.specs.r4_wander.Torn.{IsTarget}
use Rattle.r4_kept.specs.View.{CoreSeen, blocks_of}
use Rattle.r4_kept.specs.declared.parts.Commit.{Commit}

-- ---- names

-- a name that a cell may have: a block that is not fixed, or a number that was drawn for a new cell
abbrev pub IsName : (blocks next : ℕ) → ℕ → Type 0
IsName blocks next i =
    ((i < blocks) × (is_fixed blocks i ≡ false)) ⊎ ((2 ^ 63 ≤ i) × (i < next))

-- the cell has such a name, and so does whatever it names
pub record HasNames (blocks next : ℕ) (x : CellSeen) : Type 0 where
  pub own : IsName blocks next x.id
  pub named : (n : Name) → Contains (node_of x).names n → IsName blocks next n.id

-- what stands in memory under this name names that
pub record NamesAt (b : BufferSeen) (i : ℕ) (n : Name) : Type 0 where
  pub entry : EntrySeen
  pub is : buffered b i ≡ Some entry
  pub among : Contains (node_of entry.cell).names n

-- The number of a new cell is named by one cell in memory at most, and once; that of the root by
-- none.
pub record AreNamedOnce (b : BufferSeen) (root : ℕ) : Type 0 where
  pub once : (i j : ℕ) (n m : Name) → NamesAt b i n → NamesAt b j m → n.id ≡ m.id → 2 ^ 63 ≤ n.id
      → (i ≡ j) × (n ≡ m)
  pub not_root : (i : ℕ) (n : Name) → NamesAt b i n → n.id ≡ root → 2 ^ 63 ≤ root → ⊥

-- ---- a commit that is under way

-- the block is a cell on disk, of the level and the range of this cell
abbrev pub IsAccepted : (blocks : ℕ) → CellSeen → Type 0
IsAccepted blocks x = cell_fault false blocks x.level (rank x.lo) (rank x.hi) x.block ≡ None

-- The plan of an atom that owns these nodes fits on the device and is not at its end; its
-- superblock is a lawful one, of as many blocks. Reading gives what it has written so far, on the
-- image with which it began. No cell stands under a block that it writes but a dirty one; and each
-- cell of the atom is a cell on disk, which at the end is the block of its name.
pub record IsWriting
    (d : State) (b : BufferSeen) (blocks : ℕ) (nodes : List ℕ) (c : CommitSeen) : Type 0 where
  pub fits : FitOn d.blocks c.work.plan
  pub unfinished : c.work.part < 4
  pub within : c.work.done ≤ length (under_way c.work)
  pub super40 : IsLawfulSuper d.blocks c.super40
  pub count : c.super40.block_count ≡ blocks
  pub base : Image
  pub reads : TellsReads d → ReadsAs c.work base d
  pub apart : (i p : ℕ) (e : EntrySeen) → IsTarget (part c.work.plan p) i → buffered b i ≡ Some e
      → e.dirty ≡ true
  pub below : (i : ℕ) → Contains nodes i → i < blocks
  pub accepted : (i : ℕ) (e : EntrySeen) → Contains nodes i → buffered b i ≡ Some e
      → IsAccepted blocks e.cell
  pub lands : TellsReads d → (i : ℕ) (e : EntrySeen) → Contains nodes i → buffered b i ≡ Some e
      → e.cell.block ≡ block_at (base_of c.work.plan base 4) i

-- an atom that writes nothing owns nothing
abbrev pub IsWritingOf :
    State → BufferSeen → (blocks : ℕ) → (nodes : List ℕ) → Option CommitSeen → Type 0
IsWritingOf d b blocks nodes None = nodes ≡ []
IsWritingOf d b blocks nodes (Some c) = IsWriting d b blocks nodes c

abbrev pub FitsCommit : State → BufferSeen → (blocks : ℕ) → Option Commit → Type 0
FitsCommit d b blocks None = Unit {0}
FitsCommit d b blocks (Some k) = IsWritingOf d b blocks (numbers k.nodes) k.work

-- ---- reading

-- Cells in memory from which a step can read: one that is not dirty is accepted on disk, and where
-- the device tells what reading gives, it is the block of its name there; what a captured one names
-- is a block or captured.
pub record AreReadable (d : State) (b : BufferSeen) (blocks : ℕ) : Type 0 where
  pub accepted : (i : ℕ) (e : EntrySeen) → buffered b i ≡ Some e → e.dirty ≡ false
      → IsAccepted blocks e.cell
  pub same : TellsReads d → (i : ℕ) (e : EntrySeen) → buffered b i ≡ Some e → e.dirty ≡ false
      → e.cell.block ≡ block_at d.seen i
  pub names : (i : ℕ) (e : EntrySeen) → buffered b i ≡ Some e → is_captured b i ≡ true
      → NamesStand b blocks e.cell

-- ---- cells that tasks were given

-- Such a cell is as it was: the same one stands dirty in memory; or it has a block, and is accepted
-- on disk.
pub record IsStillThere (b : BufferSeen) (blocks : ℕ) (x : CellSeen) : Type 0 where
  pub dirty : is_dirty_by (buffered b x.id) ≡ true → cell_at b x.id ≡ Some x
  pub clean : is_dirty_by (buffered b x.id) ≡ false → (x.id < blocks) × IsAccepted blocks x

-- ---- the group

pub record AreCells {D : Type 0} (d : State) (c : CoreSeen D) : Type 0 where
  -- the superblock is a lawful one on this device, and the space has its blocks
  pub super40 : IsLawfulSuper d.blocks c.volume.super40
  pub space : c.space.block_count ≡ blocks_of c
  -- the root has a name that a cell may have, and two to eight levels
  pub root : IsName (blocks_of c) c.numbers.next_name c.tree.id.0
  pub height : (2 ≤ c.tree.height) × (c.tree.height ≤ 8)
  -- one without a block stands dirty in memory
  pub root_stands : 2 ^ 63 ≤ c.tree.id.0 → is_dirty_by (buffered c.buffer c.tree.id.0) ≡ true
  -- such names have the cells in memory and those that tasks were given, too
  pub buffered_names : (i : ℕ) (e : EntrySeen) → buffered c.buffer i ≡ Some e
      → HasNames (blocks_of c) c.numbers.next_name e.cell
  pub reached_names : (s : ℕ) (out : Out) (x : CellSeen) → IsOut c.turns s out
      → Contains (out.reads ++ out.writes) x → HasNames (blocks_of c) c.numbers.next_name x
  -- and nodes that atoms own
  pub owned_names : (i : ℕ) → IsSome (owner_of c.atoms i)
      → IsName (blocks_of c) c.numbers.next_name i
  -- the number of a new cell is named once at most, and that of the root never
  pub named : AreNamedOnce c.buffer c.tree.id.0
  -- before a call of the device fails, what tasks were given is still there
  pub given_cells : c.broken ≡ None → (s : ℕ) (out : Out) (x : CellSeen) → IsOut c.turns s out
      → Contains (out.reads ++ out.writes) x → IsStillThere c.buffer (blocks_of c) x
  -- a cell in memory is dirty exactly where an atom owns it
  pub dirty : (i : ℕ) (e : EntrySeen) → buffered c.buffer i ≡ Some e
      → (e.dirty ≡ true) ↔ IsSome (owner_of c.atoms i)
  -- one without a block is dirty
  pub fresh : (i : ℕ) (e : EntrySeen) → buffered c.buffer i ≡ Some e → 2 ^ 63 ≤ i
      → e.dirty ≡ true
  -- before a call of the device fails, one that is not dirty is the block of its name
  pub clean : c.broken ≡ None → AreReadable d c.buffer (blocks_of c)
  -- a commit has the nodes that its atom owns
  pub nodes : (k : Commit) → c.commit ≡ Some k → (i : ℕ)
      → Contains (numbers k.nodes) i ↔ (owner_of c.atoms i ≡ Some k.atom.0)
  -- and it can go on
  pub commit : FitsCommit d c.buffer (blocks_of c) c.commit
