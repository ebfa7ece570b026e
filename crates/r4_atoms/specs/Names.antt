-- The names of the sets of the numbers from 0 on, each named by its smallest member.
use Rattle.std.specs.Prelude.{◌≡◌, ℕ, ◌<◌, ◌≤◌, List, length, slice_index, ◌==◌, if◌then◌else◌}

-- the name of each number's set, and for how many more numbers there is room
pub record Names : Type 0 where
  pub names : List ℕ
  pub spare : ℕ

-- `kept` in place of `gone`
abbrev pub renamed : (kept gone : ℕ) → ℕ → ℕ
renamed kept gone name = if name == gone then kept else name

-- A name is no greater than the number, and the name of a name is itself.
pub record AreNames (names : List ℕ) : Type 0 where
  pub least : (i : ℕ) → i < length names → slice_index names i ≤ i
  pub own : (i : ℕ) → i < length names → slice_index names (slice_index names i) ≡ slice_index names i
