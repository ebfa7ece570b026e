-- The cells of a session once those of an open atom have the names of their blocks (docs/durable.md).
use Rattle.std.specs.Prelude.{◌≡◌, ◌↔◌, ℕ, ◌^◌, ◌≤◌, ◌<◌, List, [], ◌∷◌, Contains, true, ◌==◌, if◌then◌else◌, cond}
use Rattle.std.specs.Prelude.{Option, Some, None}
use Rattle.std.specs.Option.{option_or}
use Rattle.r4_base.specs.Cell.{cell_fault}
use Rattle.r4_base.specs.Key.{rank}
use Rattle.r4_base.specs.Tree.{Node, Store}
use Rattle.r4_base.specs.Value.{Value}
use Rattle.r4_base.specs.declared.things.AtomNo.{AtomNo}
use Rattle.r4_placed.specs.r4_cell.Seen.{CellSeen, node_of}
use Rattle.r4_placed.specs.r4_place.declared.placed.Placed.{Placed}
use Rattle.r4_placed.specs.r4_sets.Atoms.{sealed, without}
use Rattle.r4_placed.specs.r4_sets.Renaming.{IsRenamed, IsRenaming, renamed}
use Rattle.r4_placed.specs.r4_sets.Session.{Session, only, picks, cells as cells_with}
use Rattle.r4_placed.specs.r4_sealed.Commits.{is_freed, spot}
use Rattle.r4_placed.specs.Flushing.{Flushing, name_after}

-- the cell may stand in memory
abbrev pub MayStand : CellSeen → Type 0
MayStand x = cell_fault true (2 ^ 64) x.level (rank x.lo) (rank x.hi) x.block ≡ None

-- The block is of a cell of the store that the atom owns and that is gone from memory.
pub record IsGone (c : Session) (atom : AtomNo) (t : Store Value) (b : ℕ) : Type 0 where
  pub own : c.owner b ≡ Some atom.0
  pub gone : c.memory b ≡ None
  pub was : (d : Node Value) × (t b ≡ Some d)

-- The atom's cells are those that it owns in memory, each with its names renamed, and may stand in memory.
pub record IsFlush (c : Session) (work : Flushing) : Type 0 where
  pub mine : (i : ℕ) (d : Node Value) → c.owner i ≡ Some work.atom.0 → c.memory i ≡ Some d
      → (x : CellSeen) × Contains work.cells x × (x.id ≡ i)
  pub owned : (x : CellSeen) → Contains work.cells x
      → (c.owner x.id ≡ Some work.atom.0) × ((d : Node Value) × (c.memory x.id ≡ Some d))
  pub renamed_cells : (x : CellSeen) (d : Node Value) → Contains work.cells x → c.memory x.id ≡ Some d
      → IsRenamed (name_after work) d (node_of x)
  pub stands : (x : CellSeen) → Contains work.cells x → MayStand x

-- The same, where no atom is sealed, so the committed cells stand under the open atoms; and exactly the blocks are
-- freed whose cells are gone.
pub record AreFlushed (c : Session) (work : Flushing) (committed : Store Value) : Type 0 where
  pub alone : (i : ℕ) → c.under.cells i ≡ committed i
  pub flush : IsFlush c work
  pub deferred : (b : ℕ) → (is_freed work.space work.atom b ≡ true) ↔ IsGone c work.atom committed b

-- no open atom owns a block that was chosen
abbrev pub AreUnowned : Session → Flushing → Type 0
AreUnowned c work =
    (x : CellSeen) → Contains work.cells x → 2 ^ 63 ≤ x.id → c.owner (spot work.answers x) ≡ None

-- A block that an open atom owns is that of a cell that stands under the open atoms.
abbrev pub OwnsBlocks : Session → Type 0
OwnsBlocks c = (i k : ℕ) → c.owner i ≡ Some k → i < 2 ^ 63 → (d : Node Value) × (c.under.cells i ≡ Some d)

-- ---- all cells under the new names

-- The same, told of all cells u with the atom in place, under the new names.
pub record IsFlushed (c : Session) (work : Flushing) (committed : Store Value) (u : Store Value) : Type 0 where
  pub alone : (i : ℕ) → c.under.cells i ≡ committed i
  pub mine : (i : ℕ) (d : Node Value) → c.owner i ≡ Some work.atom.0 → c.memory i ≡ Some d
      → (x : CellSeen) × Contains work.cells x × (x.id ≡ i)
  pub owned : (x : CellSeen) → Contains work.cells x
      → (c.owner x.id ≡ Some work.atom.0) × ((d : Node Value) × (c.memory x.id ≡ Some d))
  pub renaming : IsRenaming (name_after work) (name_after work) (cells_with c (only work.atom.0)) u
  -- a cell of the atom is what its bytes say
  pub node : (x : CellSeen) → Contains work.cells x → u (spot work.answers x) ≡ Some (node_of x)
  pub stands : (x : CellSeen) → Contains work.cells x → MayStand x
  -- one that the atom does not own is as it was
  pub others : (i : ℕ) (d : Node Value) → (c.owner i ≡ Some work.atom.0 → ⊥) → name_after work i ≡ i → u i ≡ Some d
      → committed i ≡ Some d
  pub deferred : (b : ℕ) → (is_freed work.space work.atom b ≡ true) ↔ IsGone c work.atom committed b

-- The atom is sealed: v are the cells in memory under the new names.
pub record IsSealedTo (c : Session) (work : Flushing) (committed : Store Value) (u v : Store Value) : Type 0 where
  pub flushed : IsFlushed c work committed u
  pub memory : IsRenaming (name_after work) (name_after work) c.memory v
  pub clean : (i : ℕ) → without work.atom.0 (c.owner i) ≡ None → v i ≡ u i
  pub unowned : AreUnowned c work

-- the session afterwards
abbrev pub sealed_to : Session → Flushing → (u v : Store Value) → Session
sealed_to c work u v = renamed (sealed c work.atom) (name_after work) u v

-- ---- which cells these are

-- the atom's cell that stands at j
abbrev pub cell_at : List Placed → List CellSeen → ℕ → Option (Node Value)
cell_at answers [] j = None
cell_at answers (x ∷ xs) j = if spot answers x == j then Some (node_of x) else cell_at answers xs j

-- the atom's cells where they stand, and those of the store that it does not own
abbrev pub with_flushed : Session → Flushing → Store Value → Store Value
with_flushed c work t j =
    option_or (cell_at work.answers work.cells j) (cond (picks (only work.atom.0) (c.owner j)) None (t j))
