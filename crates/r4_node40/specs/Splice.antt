-- What an edit that puts items in the place of others leaves of the rest of a block.
use Rattle.std.specs.Prelude.{◌≡◌, ℕ, ◌+◌, ◌*◌, ◌<◌, ◌≤◌, List, length, slice_index}
use Rattle.r4_base.specs.Node.{count_of, start_of, free_of, key_at, plugin_at, offset_at, item_flags_at, edge_at, items_of}
use Rattle.r4_node40.specs.Laid.{IsLaid, KeepsFree, SameHeader, SameHead, room_of}
use Rattle.r4_node40.specs.declared.edit.Splice.{Splice}

-- The items and bytes that go stand in the block, and there is room for those that come.
pub record CanSplice (s : Splice) (b : List ℕ) : Type 0 where
  pub laid : IsLaid b
  pub within : s.at + s.gone ≤ count_of b
  pub from : s.from ≡ edge_at (count_of b) b s.at
  pub to : s.from + s.old ≡ edge_at (count_of b) b (s.at + s.gone)
  pub gone : s.gone ≤ 1
  pub come : s.come ≤ 1
  pub room : s.new + 38 * s.come ≤ free_of b + s.old + 38 * s.gone
  pub bodies : s.new ≤ free_of b + s.old

-- A header that stands elsewhere, of a body that is moved from behind `old` bytes behind `new` bytes.
pub record ShiftedHeader (old new : ℕ) (xs ys : List ℕ) (k m : ℕ) : Type 0 where
  pub key : key_at xs k ≡ key_at ys m
  pub plugin : plugin_at xs k ≡ plugin_at ys m
  pub offset : offset_at xs k + old ≡ offset_at ys m + new
  pub flags : item_flags_at xs k ≡ item_flags_at ys m

-- The first count item headers but for their offsets, which are shifted from `first` on, and all bytes below them.
pub record ShiftsOffsets (first count old new : ℕ) (b c : List ℕ) : Type 0 where
  pub before : (k : ℕ) → k < first → k < count → SameHeader c b k k
  pub after : (k : ℕ) → first ≤ k → k < count → ShiftedHeader old new c b k k
  pub bytes : (p : ℕ) → p + 38 * count < 4096 → slice_index c p ≡ slice_index b p

-- What stands before the place stays, and what stands behind it is moved with its headers.
pub record IsSpliced (s : Splice) (b c : List ℕ) : Type 0 where
  pub whole : length c ≡ 4096
  pub count : count_of c + s.gone ≡ count_of b + s.come
  pub free : free_of c + s.new + 38 * s.come ≡ free_of b + s.old + 38 * s.gone
  pub start : start_of c + s.old ≡ start_of b + s.new
  pub before : (k : ℕ) → k < s.at + s.come → SameHeader c b k k
  pub after : (k : ℕ) → s.at ≤ k → k + s.gone < count_of b → ShiftedHeader s.old s.new c b (k + s.come) (k + s.gone)
  pub front : (p : ℕ) → p < 2 → slice_index c p ≡ slice_index b p
  pub low : (p : ℕ) → 8 ≤ p → p < s.from + s.new → slice_index c p ≡ slice_index b p
  pub high : (q : ℕ) → s.from ≤ q → q + s.old < start_of b → slice_index c (q + s.new) ≡ slice_index b (q + s.old)
  pub middle : KeepsFree b c

-- The bodies begin at 28, also where there is none.
abbrev pub IsSettled : List ℕ → Type 0
IsSettled b = count_of b ≡ 0 → start_of b ≡ 28

-- The start of free space is set anew where there are no items, and nothing else changes.
pub record Settles (b c : List ℕ) : Type 0 where
  pub laid : IsLaid c
  pub settled : IsSettled c
  pub count : count_of c ≡ count_of b
  pub items : items_of c ≡ items_of b
  pub head : SameHead b c
  pub room : room_of c ≡ room_of b
  pub headers : (k : ℕ) → k < count_of b → SameHeader c b k k
  pub behind : (p : ℕ) → 8 ≤ p → slice_index c p ≡ slice_index b p
