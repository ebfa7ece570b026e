-- Bits that stand in words of 64: bit i is bit i % 64 of word i / 64.
use Rattle.std.specs.Prelude.{◌≡◌, ℕ, ◌*◌, ◌/◌, ◌%◌, ◌<◌, ◌≤◌, List, length, slice_index, map, Bool, true, false, ◌==◌}
use Rattle.std.specs.Int.{bit_at}
use Rattle.std.specs.List.{range_with_len}

-- whether bit i is 1
unfoldable pub is_set : List ℕ → ℕ → Bool
is_set words i = bit_at (slice_index words (i / 64)) (i % 64) == 1

-- the first n bits
unfoldable pub first_bits : ℕ → List ℕ → List Bool
first_bits n words = map (is_set words) (range_with_len 0 n)

-- Of the numbers from `from` up to n, i is the first that is not in the set.
pub record IsFirstClear (set : ℕ → Bool) (n from i : ℕ) : Type 0 where
  pub from_on : from ≤ i
  pub within : i < n
  pub clear : set i ≡ false
  pub before : (k : ℕ) → from ≤ k → k < i → set k ≡ true

-- Each number from `from` up to n is in the set.
abbrev pub IsFull : (set : ℕ → Bool) (n from : ℕ) → Type 0
IsFull set n from = (k : ℕ) → from ≤ k → k < n → set k ≡ true

-- `full` has a bit for each word: whether all 64 bits of that word are 1.
pub record TellsFull (words full : List ℕ) : Type 0 where
  pub covers : length words ≤ 64 * length full
  pub tells : (w : ℕ) → w < length words → is_set full w ≡ (slice_index words w == 18446744073709551615)

-- A word in which the bits before bit `from` count as 1.
pub record IsSeenFrom (word from seen : ℕ) : Type 0 where
  pub before : (j : ℕ) → j < from → bit_at seen j ≡ 1
  pub from_on : (j : ℕ) → from ≤ j → bit_at seen j ≡ bit_at word j

-- i is the first number from `near` on that is not in the set, or else the first of all.
pub record IsNextClear (set : ℕ → Bool) (n near i : ℕ) : Type 0 where
  pub within : i < n
  pub clear : set i ≡ false
  pub ahead : near ≤ i → (k : ℕ) → near ≤ k → k < i → set k ≡ true
  pub around : i < near → IsFull set n near × ((k : ℕ) → k < i → set k ≡ true)
