-- Which names a cell on disk may have (docs/volume.md, "Cells").
use Rattle.std.specs.Prelude.{◌≡◌, ℕ, ◌<◌, List, Contains, false}
use Rattle.r4_base.specs.Bitmap.{is_fixed}
use Rattle.r4_base.specs.Tree.{Name}

-- each of these names is a block of a volume of so many blocks, and not a fixed one
abbrev pub AreBlocks : (blocks : ℕ) → List Name → Type 0
AreBlocks blocks names = (n : Name) → Contains names n → (n.id < blocks) × (is_fixed blocks n.id ≡ false)
