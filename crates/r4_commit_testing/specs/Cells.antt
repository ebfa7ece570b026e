-- Cells that a test may commit.
use Rattle.std.specs.Prelude.{◌≢◌, ◌<◌, ℕ, List, All}
use Rattle.r4_cell.specs.Seen.{CellSeen}

-- each cell has the name of a block of a volume of so many blocks, other than block 0
abbrev pub HaveBlocks : (blocks : ℕ) → List CellSeen → Type 0
HaveBlocks blocks cells = All (λ c. (c.id ≢ 0) × (c.id < blocks)) cells
