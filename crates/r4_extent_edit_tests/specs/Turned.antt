-- Leaves of a root of which a range becomes an extent, for tests.
use Rattle.std.specs.Prelude.{◌≡◌, ℕ, ◌^◌, List, [], ◌∷◌, All, None, length, true}
use Rattle.r4_base.specs.Cell.{cell_fault}
use Rattle.r4_base.specs.Key.{rank}
use Rattle.r4_cell.specs.Seen.{CellSeen}
use Rattle.r4_extent_edit.specs.Turning.{AreAround}

-- The cell's block may stand in memory.
pub record Stands (c : CellSeen) : Type 0 where
  pub whole : length c.block ≡ 4096
  pub sound : cell_fault true (2 ^ 64) c.level (rank c.lo) (rank c.hi) c.block ≡ None

abbrev pub AllStand : List CellSeen → Type 0
AllStand cells = All Stands cells

-- The range begins in the first of the leaves, and ends in the last one or with it.
abbrev pub LieAround : List CellSeen → (from to : ℕ) → Type 0
LieAround [] from to = ⊥
LieAround (leaf ∷ more) from to = AreAround leaf more from to
