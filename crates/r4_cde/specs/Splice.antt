-- What an edit that puts entries in the place of others leaves of the rest of a body.
use Rattle.std.specs.Prelude.{◌≡◌, ℕ, ◌+◌, ◌*◌, ◌<◌, ◌≤◌, List, length, slice_index}
use Rattle.r4_base.specs.declared.key.Key.{Key}
use Rattle.r4_base.specs.Dir.{entry_count, entry_header, entry_key_at, entry_offset}
use Rattle.r4_cde.specs.declared.splice.Splice.{Splice}

-- The entries and bytes that go stand in the first `used` bytes, and there is room for those that come. The bodies stand
-- behind the headers, those of earlier entries before the place and those of later ones behind it.
pub record CanSplice (s : Splice) (used : ℕ) (b : List ℕ) : Type 0 where
  pub short : length b ≤ 4096
  pub inside : used ≤ length b
  pub within : s.at + s.gone ≤ entry_count b
  pub headers : entry_header (entry_count b) ≤ s.from
  pub ends : s.from + s.old ≤ used
  pub one : s.come ≤ 1
  pub bodies : used + s.new ≤ length b + s.old
  pub room : used + s.new + 26 * s.come ≤ length b + s.old + 26 * s.gone
  pub before : (k : ℕ) → k < s.at → (entry_header (entry_count b) ≤ entry_offset b k) × (entry_offset b k ≤ 4096)
  pub after : (k : ℕ) → s.at + s.gone ≤ k → k < entry_count b → (s.from + s.old ≤ entry_offset b k) × (entry_offset b k ≤ 4096)

-- What stands before the place stays with the headers that stand there, and what stands behind it is moved with its
-- headers: the first `used` bytes are now the first u.
pub record IsSpliced (s : Splice) (used : ℕ) (b : List ℕ) (u : ℕ) (c : List ℕ) : Type 0 where
  pub whole : length c ≡ length b
  pub used_is : u + s.old + 26 * s.gone ≡ used + s.new + 26 * s.come
  pub count : entry_count c + s.gone ≡ entry_count b + s.come
  pub keys_before : (item : Key) (k : ℕ) → k < s.at → entry_key_at item c k ≡ entry_key_at item b k
  pub keys_after : (item : Key) (k : ℕ) → s.at ≤ k → k + s.gone < entry_count b → entry_key_at item c (k + s.come) ≡ entry_key_at item b (k + s.gone)
  pub before : (k : ℕ) → k < s.at → entry_offset c k + 26 * s.gone ≡ entry_offset b k + 26 * s.come
  pub after : (k : ℕ) → s.at ≤ k → k + s.gone < entry_count b → entry_offset c (k + s.come) + s.old + 26 * s.gone ≡ entry_offset b (k + s.gone) + s.new + 26 * s.come
  pub low : (p q : ℕ) → entry_header (entry_count b) ≤ q → q < s.from → p + 26 * s.gone ≡ q + 26 * s.come → slice_index c p ≡ slice_index b q
  pub high : (p q : ℕ) → s.from + s.old ≤ q → q < used → p + s.old + 26 * s.gone ≡ q + s.new + 26 * s.come → slice_index c p ≡ slice_index b q
  pub rest : (p : ℕ) → used ≤ p → u ≤ p → used + s.new ≤ p + s.old → slice_index c p ≡ slice_index b p
