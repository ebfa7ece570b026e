-- What contracts see of a wandered copy and of a placed cell.
use Rattle.std.specs.Prelude.{ℕ, List}
use Rattle.r4_cell.specs.Seen.{CellSeen}

-- a wandered copy: its original, the block of the copy, and what is written to both
pub record Copy : Type 0 where
  pub original : ℕ
  pub copy : ℕ
  pub block : List ℕ

-- a placed cell, and the block that it gets
pub record Placed : Type 0 where
  pub at : ℕ
  pub cell : CellSeen
