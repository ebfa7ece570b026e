-- The bitmaps of a volume, block by block: what is wrong with them, and the space that they tell (docs/layout.md, "Bitmaps").
use Rattle.std.specs.Prelude.{◌≡◌, ℕ, ◌+◌, ◌*◌, ◌/◌, ◌%◌, ◌<◌, ◌≤◌, List, [], ◌∷◌, length, map, replicate, count_by, sum_by, slice_index_or, Option, Some, None, Bool, true, false, not, ◌==◌, if◌then◌else◌}
use Rattle.std.specs.List.{range_with_len}
use Rattle.std.specs.Option.{option_or}
use Rattle.r4_base.specs.Image.{Image, block_at}
use Rattle.r4_base.specs.Bitmap.{are_held, bitmap_block, bitmap_count, bits_of, is_always_used, is_used}
use Rattle.r4_space.specs.Space.{Space}

-- the number of 0 bits among these bitmaps
unfoldable pub free_bits : List (List ℕ) → ℕ
free_bits bitmaps = sum_by (λ block. count_by not (bits_of block)) bitmaps

-- the first of these bitmaps, of which the first one is bitmap n, with a 0 for a block that is always used: its block
unfoldable pub first_unheld_of : (block_count n : ℕ) → List (List ℕ) → Option ℕ
first_unheld_of block_count n [] = None
first_unheld_of block_count n (block ∷ rest) =
    if are_held block_count (n * 32736) (bits_of block) then first_unheld_of block_count (n + 1) rest else
    Some (bitmap_block n)

-- The first bitmap block with a 0 for a block that is always used; else block 18, where the number of 0 bits is not
-- free_blocks; else none.
abbrev pub bitmaps_fault : (block_count free_blocks : ℕ) → List (List ℕ) → Option ℕ
bitmaps_fault block_count free_blocks bitmaps =
    option_or (first_unheld_of block_count 0 bitmaps) (if free_bits bitmaps == free_blocks then None else Some 18)

-- Of a bitmap's bits from one on up to another, those are 1 that stand for blocks that are always used; and one of its
-- bits that does is 0. Its first bit stands for this block.
abbrev pub IsHeldIn : (block_count first from end : ℕ) → List ℕ → Type 0
IsHeldIn block_count first from end block = (k : ℕ) → from ≤ k → k < end
    → is_always_used block_count (first + k) ≡ true → is_used block k ≡ true

abbrev pub HasUnheld : (block_count first : ℕ) → List ℕ → Type 0
HasUnheld block_count first block = (k : ℕ) × (k < 32736)
    × (is_always_used block_count (first + k) ≡ true) × (is_used block k ≡ false)

-- whether these bitmaps mark block b as used
abbrev pub marks : List (List ℕ) → ℕ → Bool
marks bitmaps b = is_used (slice_index_or bitmaps (b / 32736) []) (b % 32736)

-- nothing is placed, held or deferred, no atom is open or sealed, and there is room for no call
abbrev pub told_space : (block_count : ℕ) → List (List ℕ) → Space
told_space block_count bitmaps = record {
  block_count = block_count;
  marked = map (marks bitmaps) (range_with_len 0 block_count);
  placed = replicate block_count false;
  held = [];
  deferred = [];
  atoms = [];
  sealed = [];
  spare = 0;
}

-- These are the bitmaps of an image.
pub record AreBitmapsOf (block_count : ℕ) (image : Image) (bitmaps : List (List ℕ)) : Type 0 where
  pub count : length bitmaps ≡ bitmap_count block_count
  pub each : (n : ℕ) → n < bitmap_count block_count → slice_index_or bitmaps n [] ≡ block_at image (bitmap_block n)
