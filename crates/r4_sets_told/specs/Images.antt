-- Cells of a session as the blocks of an image (docs/sets.md).
use Rattle.std.specs.Prelude.{◌≡◌, ℕ, Some}
use Rattle.r4_base.specs.Cell.{IsCellOf}
use Rattle.r4_base.specs.Image.{Image, block_at}
use Rattle.r4_base.specs.Tree.{Node}
use Rattle.r4_base.specs.Value.{Value}
use Rattle.r4_base.specs.Volume.{HasLayout, IsPlace, root_of}
use Rattle.r4_base.specs.declared.superblock.Super40.{Super40}
use Rattle.r4_sets.specs.Session.{Layer}

-- The superblocks and bitmaps of the image are lawful, and each cell of the layer stands in its block, which is marked
-- as
-- used.
pub record StandsIn (n : ℕ) (image : Image) (super : Super40) (l : Layer) : Type 0 where
  pub layout : HasLayout n image super
  pub root : l.root ≡ root_of super
  pub cells : (i : ℕ) (c : Node Value) → l.cells i ≡ Some c → IsCellOf super.block_count (block_at image i) c
  pub places : (i : ℕ) (c : Node Value) → l.cells i ≡ Some c → IsPlace super.block_count image i
