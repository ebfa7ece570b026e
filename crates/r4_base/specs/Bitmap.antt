-- The bitmaps of a volume, and the fixed blocks (docs/layout.md, "Bitmaps").
use Rattle.std.specs.Prelude.{◌≡◌, ℕ, zero, suc, ◌+◌, ◌-◌, ◌*◌, ◌/◌, ◌%◌, ◌<◌, ◌≤◌, List, [], ◌∷◌, slice_index, Bool, true, false, not, ◌&&◌, ◌||◌, Option, Some, None, nat_lt, nat_le, ◌==◌, count_by, if◌then◌else◌}
use Rattle.std.specs.Int.{bit_at}
use Rattle.std.specs.Option.{option_or}
use Rattle.r4_base.specs.Image.{Image, block_at}
use Rattle.r4_base.specs.declared.limits.TheConstants.{BITMAP_BITS, FIRST_BITMAP, FIRST_PLACE}

-- ---- one bitmap block: four bytes that are not read, then 32736 bits, the lowest bit of a byte first; 1 means used

abbrev pub bits_per_bitmap : ℕ
bits_per_bitmap = BITMAP_BITS

-- whether bit i of a bitmap block is 1
unfoldable pub is_used : List ℕ → ℕ → Bool
is_used block i = bit_at (slice_index block (4 + i / 8)) (i % 8) == 1

-- n bits from the i-th on
unfoldable pub bits_from : ℕ → ℕ → List ℕ → List Bool
bits_from zero i block = []
bits_from (suc n) i block = is_used block i ∷ bits_from n (i + 1) block

-- the bits of a bitmap block
unfoldable pub bits_of : List ℕ → List Bool
bits_of block = bits_from bits_per_bitmap 0 block

-- Bit j is the first 0 from bit `from` on.
pub record IsFirstFree (block : List ℕ) (from j : ℕ) : Type 0 where
  pub from_on : from ≤ j
  pub within : j < BITMAP_BITS
  pub free : is_used block j ≡ false
  pub before : (k : ℕ) → from ≤ k → k < j → is_used block k ≡ true

-- Each bit from bit `from` on is 1.
abbrev pub IsFullFrom : List ℕ → ℕ → Type 0
IsFullFrom block from = (k : ℕ) → from ≤ k → k < BITMAP_BITS → is_used block k ≡ true

-- ---- the bitmaps of a volume: bit i of bitmap n stands for block n * 32736 + i

-- how many bitmaps there are: one for each 32736 blocks or part of them
abbrev pub bitmap_count : ℕ → ℕ
bitmap_count block_count = (block_count + (BITMAP_BITS - 1)) / BITMAP_BITS

-- where bitmap n stands: bitmap 0 is block 18, and each other one the first block that it stands for
abbrev pub bitmap_block : ℕ → ℕ
bitmap_block n = if n == 0 then FIRST_BITMAP.0 else n * BITMAP_BITS

-- the fixed blocks of a volume: blocks 0 to 21, and each bitmap's below the block count
abbrev pub is_fixed : (block_count b : ℕ) → Bool
is_fixed block_count b = nat_lt b FIRST_PLACE || (nat_lt 0 b && b % BITMAP_BITS == 0 && nat_lt b block_count)

-- whether the image's bitmaps mark block b as used
abbrev pub is_marked : Image → ℕ → Bool
is_marked image b = is_used (block_at image (bitmap_block (b / BITMAP_BITS))) (b % BITMAP_BITS)

-- ---- what is wrong with the bitmaps

-- the bits of bitmap n of an image
abbrev pub bitmap_bits : Image → ℕ → List Bool
bitmap_bits image n = bits_of (block_at image (bitmap_block n))

-- the number of 0 bits among the first n bitmaps
unfoldable pub free_below : ℕ → Image → ℕ
free_below zero image = 0
free_below (suc n) image = free_below n image + count_by not (bitmap_bits image n)

-- the number of 0 bits among all bitmaps
abbrev pub free_in : (block_count : ℕ) → Image → ℕ
free_in block_count image = free_below (bitmap_count block_count) image

-- a block whose bit is always 1: a fixed block, and a number at or past the block count
abbrev pub is_always_used : (block_count b : ℕ) → Bool
is_always_used block_count b = is_fixed block_count b || nat_le block_count b

-- bits that stand for the blocks from block b on are 1 where they always are
abbrev pub are_held : (block_count b : ℕ) → List Bool → Bool
are_held block_count b [] = true
are_held block_count b (used ∷ bits) = (used || not (is_always_used block_count b)) && are_held block_count (b + 1) bits

-- the first of at most k bitmaps, from bitmap n on, with a 0 for a block that is always used: its block
unfoldable pub first_unheld : (block_count k n : ℕ) → Image → Option ℕ
first_unheld block_count zero n image = None
first_unheld block_count (suc k) n image =
    if are_held block_count (n * BITMAP_BITS) (bitmap_bits image n) then first_unheld block_count k (n + 1) image else
    Some (bitmap_block n)

-- The first bitmap block with a 0 for a block that is always used; else block 18, where the number of 0 bits is not
-- free_blocks; else none.
unfoldable pub bitmap_fault : (block_count free_blocks : ℕ) → Image → Option ℕ
bitmap_fault block_count free_blocks image =
    option_or (first_unheld block_count (bitmap_count block_count) 0 image) (if free_in block_count image == free_blocks then None else Some FIRST_BITMAP.0)
