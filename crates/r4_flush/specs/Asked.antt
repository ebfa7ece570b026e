-- What is asked of the cells of an atom that is flushed (docs/durable.md, "From an open atom to its plan").
use Rattle.std.specs.Prelude.{◌≢◌, ℕ, ◌<◌, List, sum_by, nat_le, if◌then◌else◌}
use Rattle.r4_base.specs.declared.limits.TheConstants.{UNPLACED}
use Rattle.r4_cell.specs.Seen.{CellSeen}

-- a cell that has a block has one of the volume, which is not block 0
abbrev pub StandsIn : (blocks : ℕ) → CellSeen → Type 0
StandsIn blocks c = c.id < UNPLACED → (c.id ≢ 0) × (c.id < blocks)

-- how many cells have no block
abbrev pub fresh_cell : CellSeen → ℕ
fresh_cell c = if nat_le UNPLACED c.id then 1 else 0

abbrev pub fresh_count : List CellSeen → ℕ
fresh_count cells = sum_by fresh_cell cells
