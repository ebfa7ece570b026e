-- The numbers of cells that come in rows (docs/volume.md, "Edits").
use Rattle.std.specs.Prelude.{◌≡◌, ◌⊎◌, ℕ, suc, ◌+◌, ◌<◌, ◌≤◌, List, [], ◌∷◌, ◌++◌, Contains}
use Rattle.std.specs.Prelude.{length, take, Option, None, Some}
use Rattle.r4_base.specs.Tree.{IsNode, Root, Store}
use Rattle.r4_base.specs.Value.{Value}
use Rattle.r4_cell.specs.Patch.{HaveNames}
use Rattle.r4_cell.specs.Seen.{CellSeen, node_of}
use Rattle.r4_patch.specs.Joining.{ids_of}
use Rattle.r4_patch.specs.Part.{IsPart}
use Rattle.r4_path.specs.Steps.{CountUp, IsFree}
use Rattle.r4_path.specs.Twigs.{IsUnused}
use Rattle.r4_rows.specs.Rows.{AreThere, EndsIn, IsRow, Mounts, Row, all_news}

-- The new cells of each row have the first of the old ones' numbers, and then the next ones from n
-- on, below another number.
abbrev pub AreNumbered : (n to : ℕ) → List Row → (over : Option CellSeen) → Type 0
AreNumbered n to [] None = n ≤ to
AreNumbered n to [] (Some c) = (c.id ≡ n) × (n < to)
AreNumbered n to (s ∷ rows) over = (xs : List ℕ)
    × (ids_of s.new ≡ take (length s.new) (ids_of s.old) ++ xs)
    × CountUp n xs
    × AreNumbered (n + length xs) to rows over

-- What comes below the rows has the number of a cell that goes there, or one that is unused and is
-- not among those that the rows may take.
pub record HaveNumbersBelow (t : Store Value) (n to : ℕ) (b : Row) : Type 0 where
  pub old : HaveNames b.old
  pub new : HaveNames b.new
  pub each : (c : CellSeen) → Contains b.new c
      → Contains (ids_of b.old) c.id ⊎ (IsUnused t c.id × ((c.id < n) ⊎ (to ≤ c.id)))

-- Rows over what goes and comes below them, with such numbers.
pub record IsNumberedChange (t : Store Value) (r : Root) (level n to : ℕ) (b s : Row)
    (more : List Row) (over : Option CellSeen) : Type 0 where
  pub part : IsPart t r
  pub branch : 2 ≤ level
  pub gone : AreThere t b.old
  pub low_old : (c : CellSeen) → Contains b.old c → c.level ≤ 1
  pub low_new : (c : CellSeen) → Contains b.new c → c.level ≤ 1
  pub lowest : IsRow t level b s
  pub mounts : Mounts t (suc level) s more
  pub ends : EndsIn r s more over
  pub nodes : (c : CellSeen) → Contains (all_news b s more over) c → IsNode (node_of c)
  pub free : IsFree n to t
  pub below : HaveNumbersBelow t n to b
  pub numbers : AreNumbered n to (s ∷ more) over
