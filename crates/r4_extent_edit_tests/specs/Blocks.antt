-- An extent of blocks that have no place yet, for tests.
use Rattle.std.specs.Prelude.{◌≡◌, ℕ, ◌+◌, ◌*◌, ◌^◌, ◌<◌, ◌≤◌, List, [], ◌∷◌, length}
use Rattle.r4_base.specs.Extents.{units_of}
use Rattle.r4_base.specs.Key.{IsKey, offset_of}
use Rattle.r4_base.specs.Node.{Item}
use Rattle.r4_base.specs.declared.items.Unit.{Unit as ExtentUnit}

-- units of one block each, which have the numbers from one on
abbrev pub CountBlocks : (start : ℕ) → List ExtentUnit → Type 0
CountBlocks start [] = Unit {0}
CountBlocks start (u ∷ us) = (u.start ≡ start) × (u.width ≡ 1) × CountBlocks (start + 1) us

-- The body is an extent of so many blocks that have no place yet, with the numbers behind those
-- that a change may take.
pub record AreBlocks (count : ℕ) (body : List ℕ) : Type 0 where
  pub some : 1 ≤ count
  pub few : count ≤ 251
  pub long : length body ≡ 16 * count
  pub counted : length (units_of body) ≡ count
  pub blocks : CountBlocks (2 ^ 63 + 2000) (units_of body)

-- The extent is that of these blocks, and its bytes have offsets below 2^64.
pub record IsExtentOf (count : ℕ) (it : Item) : Type 0 where
  pub body : AreBlocks count it.body
  pub key : IsKey it.key
  pub fits : offset_of it.key + 4096 * count < 2 ^ 64
