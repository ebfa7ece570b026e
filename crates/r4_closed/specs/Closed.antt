-- Cells in memory that name each other where they are new (docs/core.md, "Sealing").
use Rattle.std.specs.Prelude.{◌≡◌, ◌⊎◌, ℕ, ◌^◌, ◌≤◌, Contains, List, None, map, true}
use Rattle.r4_base.specs.Cell.{cell_fault}
use Rattle.r4_base.specs.Key.{rank}
use Rattle.r4_base.specs.Tree.{Name}
use Rattle.r4_cell.specs.Seen.{CellSeen, node_of}

-- The new cells that they name are among them; and each new one among them, but the root's, is named
-- by one of them.
pub record NameEachOther (root : ℕ) (cells : List CellSeen) : Type 0 where
  pub down : (x : CellSeen) (n : Name) → Contains cells x → Contains (node_of x).names n
      → 2 ^ 63 ≤ n.id → Contains (map (λ (y : CellSeen). y.id) cells) n.id
  pub up : (y : CellSeen) → Contains cells y → 2 ^ 63 ≤ y.id
      → (y.id ≡ root)
      ⊎ ((x : CellSeen) × (n : Name) × Contains cells x × Contains (node_of x).names n
      × (n.id ≡ y.id))

-- each of the cells may stand in memory on 2^63 blocks: it has no wide unit of an extent from there
-- on
abbrev pub MayBeNamed : List CellSeen → Type 0
MayBeNamed cells = (x : CellSeen) → Contains cells x
    → cell_fault true (2 ^ 63) x.level (rank x.lo) (rank x.hi) x.block ≡ None

-- both
pub record AreClosed (root : ℕ) (cells : List CellSeen) : Type 0 where
  pub named : NameEachOther root cells
  pub may : MayBeNamed cells
