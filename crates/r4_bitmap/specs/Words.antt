-- The words of a bitmap block: bit i of the bitmap is bit (i + 32) % 64 of word (i + 32) / 64.
use Rattle.std.specs.Prelude.{◌≡◌, ℕ, ◌+◌, ◌*◌, ◌/◌, ◌%◌, ◌<◌, ◌≤◌, List, slice_index}
use Rattle.std.specs.Int.{bit_at}

-- Word w, in which the bits before bit `from` of the bitmap count as 1.
pub record IsSeenFrom (block : List ℕ) (w from word : ℕ) : Type 0 where
  pub before : (j : ℕ) → j < 64 → 64 * w + j < from + 32 → bit_at word j ≡ 1
  pub from_on : (j : ℕ) → j < 64 → from + 32 ≤ 64 * w + j → bit_at word j ≡ bit_at (slice_index block (8 * w + j / 8)) (j % 8)
