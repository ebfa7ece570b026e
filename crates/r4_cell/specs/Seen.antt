-- What contracts see of a cell (docs/volume.md, "Cells").
use Rattle.std.specs.Prelude.{◌≡◌, ℕ, List, false, None}
use Rattle.r4_base.specs.Key.{rank}
use Rattle.r4_base.specs.Cell.{cell_fault, cell_of}
use Rattle.r4_base.specs.Image.{Image, block_at}
use Rattle.r4_base.specs.Tree.{Node}
use Rattle.r4_base.specs.Value.{Value}
use Rattle.r4_base.specs.declared.key.Key.{Key}

pub record CellSeen : Type 0 where
  pub id : ℕ
  pub level : ℕ
  pub lo : Key
  pub hi : Key
  pub block : List ℕ

-- what it names, the ranges of its extents, and its units, in order
abbrev pub node_of : CellSeen → Node Value
node_of c = cell_of c.level (rank c.lo) (rank c.hi) c.block

-- it is the block of its number in the image, and accepted at its level and range on a volume of so many blocks
abbrev pub IsReadFrom : (blocks : ℕ) → Image → CellSeen → Type 0
IsReadFrom blocks image c = (c.block ≡ block_at image c.id) × (cell_fault false blocks c.level (rank c.lo) (rank c.hi) c.block ≡ None)
