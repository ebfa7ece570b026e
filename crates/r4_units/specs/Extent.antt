-- The blocks of an extent, one by one (docs/volume.md, "Cells"). A key is its rank.
use Rattle.std.specs.Prelude.{◌≡◌, ℕ, ◌+◌, ◌<◌, List, [], ◌∷◌, Some, None, replicate, if◌then◌else◌, ◌==◌}
use Rattle.r4_base.specs.Extents.{block_of, blocks_in}
use Rattle.r4_base.specs.Image.{Image, block_at}
use Rattle.r4_base.specs.Tree.{Name}
use Rattle.r4_base.specs.declared.items.Unit.{Unit as ExtentUnit}

-- a block of an extent as a unit of one block: what is at so many blocks behind the beginning
pub record IsUnitAt (us : List ExtentUnit) (block : ℕ) (u : ExtentUnit) : Type 0 where
  pub is : block_of us block ≡ (if u.start == 0 then None else Some u.start)
  pub within : block < blocks_in us
  pub width : u.width ≡ 1

-- a data block whose first byte has this key
abbrev pub block_name : (id lo : ℕ) → Name
block_name id lo = record { id = id; level = 0; lo = lo; hi = lo + 4096 }

-- the data block that a unit of one block names: none where it is a hole
abbrev pub unit_names : ExtentUnit → (lo : ℕ) → List Name
unit_names u lo = if u.start == 0 then [] else (block_name u.start lo ∷ [])

-- the bytes of a unit of one block
abbrev pub unit_block : Image → ExtentUnit → List ℕ
unit_block image u = if u.start == 0 then replicate 4096 0 else block_at image u.start
