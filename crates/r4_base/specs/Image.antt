-- An image: a list of blocks, each a list of 4096 bytes.
use Rattle.std.specs.Prelude.{◌≡◌, ℕ, ◌*◌, ◌<◌, ◌≤◌, List, [], ◌∷◌, length, take, drop, slice_index_or, slice_set, Contains}
use Rattle.r4_base.specs.declared.limits.TheConstants.{LEAST_BLOCKS, MOST_BLOCKS}

abbrev pub Image : Type 0
Image = List (List ℕ)

abbrev pub IsBlock : List ℕ → Type 0
IsBlock x = length x ≡ 4096

abbrev pub block_at : Image → ℕ → List ℕ
block_at image b = slice_index_or image b []

-- sector s of a block, of its eight: 512 bytes
abbrev pub sector : List ℕ → ℕ → List ℕ
sector block s = take 512 (drop (512 * s) block)

-- how many blocks a volume may have
abbrev pub IsLawful : (blocks : ℕ) → Type 0
IsLawful blocks = (LEAST_BLOCKS ≤ blocks) × (blocks ≤ MOST_BLOCKS)

-- An image of n blocks.
pub record IsImage (n : ℕ) (image : Image) : Type 0 where
  pub blocks : length image ≡ n
  pub whole : (b : ℕ) → b < n → IsBlock (block_at image b)

-- The pairs put in place, in order: each original gets what then stands in its wandered block.
abbrev pub put_pairs : List (ℕ × ℕ) → Image → Image
put_pairs [] image = image
put_pairs (p ∷ ps) image = put_pairs ps (slice_set image p.0 (block_at image p.1))

-- The same image but for the blocks of W.
pub record AgreesOutside (W : ℕ → Type 0) (base image : Image) : Type 0 where
  pub blocks : length image ≡ length base
  pub others : (b : ℕ) → (W b → ⊥) → block_at image b ≡ block_at base b

-- no block twice
abbrev pub AreDifferent : List ℕ → Type 0
AreDifferent [] = Unit {0}
AreDifferent (b ∷ bs) = (Contains bs b → ⊥) × AreDifferent bs
