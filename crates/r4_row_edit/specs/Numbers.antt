-- The numbers of nodes in the place of a row (docs/volume.md, "Edits").
use Rattle.std.specs.Prelude.{◌≡◌, ℕ, ◌+◌, ◌-◌, List, ◌++◌, length, take}
use Rattle.r4_cell.specs.declared.change.Fresh.{Fresh}
use Rattle.r4_path.specs.Steps.{CountUp}

-- So many numbers: the first of the old ones, and then the next ones.
pub record TakesNumbers (old : List ℕ) (count : ℕ) (before after : Fresh) (ids : List ℕ) : Type 0 where
  pub taken : List ℕ
  pub are : ids ≡ take count old ++ taken
  pub many : length ids ≡ count
  pub counts : CountUp before.next taken
  pub left : after ≡ record before { next = before.next + length taken }

-- The next numbers come behind others, until there are so many; none where there are as many.
pub record AddsFresh (count : ℕ) (before after : Fresh) (had ids : List ℕ) : Type 0 where
  pub more : List ℕ
  pub are : ids ≡ had ++ more
  pub many : length more ≡ count - length had
  pub counts : CountUp before.next more
  pub left : after ≡ record before { next = before.next + length more }
