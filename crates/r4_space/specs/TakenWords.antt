-- What holds of the words that keep which of the first numbers are taken.
use Rattle.std.specs.Prelude.{◌≡◌, ℕ, ◌+◌, ◌*◌, ◌/◌, ◌≤◌, List, length, not, count_by}
use Rattle.r4_space.specs.Words.{first_bits, TellsFull}

-- Each row of words tells which words of the row before it are full, and `clear` numbers below `size` are not taken.
pub record IsTaken (size : ℕ) (words full fuller : List ℕ) (clear : ℕ) : Type 0 where
  pub small : length words ≤ 65536
  pub small_too : length full ≤ 65536
  pub small_three : length fuller ≤ 65536
  pub covers : size ≤ 64 * length words
  pub told : TellsFull words full
  pub told_too : TellsFull full fuller
  pub counted : clear ≡ count_by not (first_bits size words)

-- There are words for the numbers below `size`.
pub record AreWords (size : ℕ) (words : List ℕ) : Type 0 where
  pub most : size ≤ 1048576
  pub covers : length words ≡ size / 64 + 1
