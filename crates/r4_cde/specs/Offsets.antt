-- What a shift of offsets leaves.
use Rattle.std.specs.Prelude.{◌≡◌, ◌⊎◌, ℕ, ◌+◌, ◌<◌, ◌≤◌, List, length, slice_index}
use Rattle.r4_base.specs.declared.key.Key.{Key}
use Rattle.r4_base.specs.Dir.{entry_count, entry_header, entry_key_at, entry_offset}

-- The offsets of the entries from `first` up to `end` are shifted from behind `old` bytes behind `new` bytes, and nothing
-- else changes.
pub record ShiftsOffsets (first end old new : ℕ) (b c : List ℕ) : Type 0 where
  pub whole : length c ≡ length b
  pub count : entry_count c ≡ entry_count b
  pub keys : (item : Key) (k : ℕ) → entry_header (k + 1) ≤ length b → entry_key_at item c k ≡ entry_key_at item b k
  pub shifted : (k : ℕ) → first ≤ k → k < end → entry_offset c k + old ≡ entry_offset b k + new
  pub others : (k : ℕ) → (k < first) ⊎ (end ≤ k) → entry_header (k + 1) ≤ length b → entry_offset c k ≡ entry_offset b k
  pub bytes : (p : ℕ) → entry_header end ≤ p → slice_index c p ≡ slice_index b p
