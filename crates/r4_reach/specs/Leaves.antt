-- Keys that lie in leaves, and how many cells come (docs/volume.md, "Reach"). A key is its rank.
use Rattle.std.specs.Prelude.{◌≡◌, ℕ, ◌+◌, ◌<◌, ◌≤◌, Bool, true, List, length, sum_by}
use Rattle.std.specs.Prelude.{Option, None, Some}
use Rattle.r4_base.specs.Key.{least, top}
use Rattle.r4_base.specs.Tree.{Covers, Root, Store}
use Rattle.r4_base.specs.Value.{Value}
use Rattle.r4_path.specs.r4_cell.Seen.{CellSeen, node_of}
use Rattle.r4_reach.specs.Demand.{Demand, ask, ask_of}
use Rattle.r4_reach.specs.Needs.{Ask}

-- each of these keys, as far as it is one that an item may have, lies in a leaf
abbrev pub LieInLeaves : Store Value → (keys : ℕ → Bool) → Type 0
LieInLeaves t keys = (k : ℕ) → keys k ≡ true → least ≤ k → k < top → Covers t 1 k

-- for how many pointers this asks
abbrev pub more_of : Option Ask → ℕ
more_of None = 0
more_of (Some a) = a.more

-- and for how many these cells do
abbrev pub more_in : Demand Ask → Store Value → List CellSeen → ℕ
more_in d t cells = sum_by (λ (c : CellSeen). more_of (ask d t c.level (node_of c))) cells

-- a root that asks for something gets one cell above it
abbrev pub rise_of : Option Ask → ℕ
rise_of None = 0
rise_of (Some a) = 1

-- How many new cells come at most where these cells are written: one in the place of each, those for which they ask,
-- and a new root.
abbrev pub most_of : Demand Ask → Store Value → Root → (writes : List CellSeen) → ℕ
most_of d t root writes =
    length writes + more_in d t writes + rise_of (ask_of (ask d t root.height) (t root.id))
