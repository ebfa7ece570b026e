-- What a command asks of a tree, as a budget (docs/volume.md, "What may still come").
use Rattle.std.specs.Prelude.{◌≡◌, ℕ, ◌<◌, ◌≤◌, false, if◌then◌else◌, nat_le, Some}
use Rattle.r4_base.specs.Tree.{Node, Root, Store}
use Rattle.r4_base.specs.Value.{Value}
use Rattle.r4_reach.specs.Demand.{Demand, ask, ask_of}
use Rattle.r4_reach.specs.Leaves.{more_of}
use Rattle.r4_reach.specs.Needs.{Ask}
use Rattle.r4_reach.specs.Reach.{IsRootAsking}
use Rattle.r4_measure.specs.Budget.{AreSeen, Budget}

-- for each cell the pointers for which it asks
abbrev pub asked_of : Demand Ask → Store Value → Budget
asked_of d t l i = more_of (ask_of (ask d t l) (t i))

-- the same of twigs and of what stands above them, while nothing comes of leaves and blocks
abbrev pub asked_above : Demand Ask → Store Value → Budget
asked_above d t l i = if nat_le l 1 then 0 else asked_of d t l i

-- What is asked of a tree of cells, where no twig and nothing above it goes: no cell asks for more than 87, and the root
-- asks for something only below level 8.
pub record AsksAbove (d : Demand Ask) (t : Store Value) (r : Root) : Type 0 where
  pub seen : AreSeen t
  pub stay : (l i : ℕ) (c : Node Value) (a : Ask) → 2 ≤ l → t i ≡ Some c → ask d t l c ≡ Some a
      → a.gone ≡ false
  pub small : (l i : ℕ) → 2 ≤ l → asked_of d t l i ≤ 87
  pub low : (a : Ask) → IsRootAsking d t r a → r.height < 8
