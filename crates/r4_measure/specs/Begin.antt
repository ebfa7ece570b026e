-- The edits of a command at its start, on what it reaches (docs/volume.md, "What may still come").
use Rattle.std.specs.Prelude.{◌≡◌, ◌≢◌, ℕ, ◌<◌, ◌≤◌, List, [], ◌∷◌, Contains, Option, Some, true, false}
use Rattle.r4_base.specs.Key.{rank}
use Rattle.r4_base.specs.Tree.{Node, Root, Store}
use Rattle.r4_base.specs.Value.{Value}
use Rattle.r4_reach.specs.r4_cell.Seen.{CellSeen}
use Rattle.r4_reach.specs.r4_cell.declared.change.Fresh.{Fresh}
use Rattle.r4_content.specs.Edited.{Edits, Intervals}
use Rattle.r4_reach.specs.r4_leaf.Remade.{AreWithin, CanPutAll, cut_all}
use Rattle.r4_reach.specs.r4_leaf.Units.{leaf_bytes}
use Rattle.r4_reach.specs.Needs.{Ask, changes_pieces, come_of, demand_of, is_touched, units_after}
use Rattle.r4_reach.specs.Reach.{IsRootAsking, IsWritten}
use Rattle.r4_reach.specs.Touched.{Body}
use Rattle.r4_work.specs.Remaking.{CutsWithin, HaveKeys}
use Rattle.r4_work.specs.Working.{AreCellsIn}
use Rattle.r4_measure.specs.Asked.{asked_of}
use Rattle.r4_measure.specs.Budget.{AreSeen}
use Rattle.r4_measure.specs.Loop.{LeafTurn, units_now}

-- What a command asks of a tree of cells: no block comes, no pieces of twigs change, and no cell asks for more than 87.
-- Where the root asks for something it stands below level 8: the command is not `tall`.
pub record IsQuiet (b : Option Body) (e : Edits) (reads rs : Intervals) (t : Store Value) (r : Root)
    : Type 0 where
  pub quiet : come_of b ≡ (0, 0)
  pub seen : AreSeen t
  pub still : (i : ℕ) (c : Node Value) → t i ≡ Some c → c.level ≡ 2
      → changes_pieces b e c ≡ false
  pub small : (l i : ℕ) → asked_of (demand_of b e reads rs) t l i ≤ 87
  pub low : (x : Ask) → IsRootAsking (demand_of b e reads rs) t r x → r.height < 8

-- The cells are cells of this part of a tree, with all that a quiet command writes.
pub record IsReachedFor (b : Option Body) (e : Edits) (reads rs : Intervals) (t : Store Value)
    (r : Root) (f : Fresh) (cells : List CellSeen) : Type 0 where
  pub quiet : IsQuiet b e reads rs t r
  pub height : r.height ≤ 8
  pub cells_in : AreCellsIn t r f cells
  pub written : (i : ℕ) → IsWritten (demand_of b e reads rs) t i
      → (x : CellSeen) × Contains cells x × (x.id ≡ i)

-- The leaf of this number is written, and its edits are those that the command makes there.
pub record IsEditOf (b : Option Body) (e : Edits) (reads rs : Intervals) (t : Store Value)
    (turn : LeafTurn) (i : ℕ) : Type 0 where
  pub node : Node Value
  pub at : t i ≡ Some node
  pub written : IsWritten (demand_of b e reads rs) t i
  pub touched : is_touched rs node ≡ true
  pub level : node.level ≡ 1
  pub key : (node.lo ≤ rank turn.key) × (rank turn.key < node.hi)
  pub cuts_within : CutsWithin node.lo node.hi turn.cuts
  pub within : AreWithin node.lo node.hi turn.items
  pub keys : HaveKeys turn.items
  pub can : CanPutAll turn.items (cut_all turn.cuts node.units)
  pub small : leaf_bytes (units_now turn node) < 58912
  pub units : units_after b e node ≡ units_now turn node

-- each of them, and no two of one leaf
abbrev pub AreEditsOf : Option Body → Edits → (reads rs : Intervals) → Store Value → List LeafTurn
    → List ℕ → Type 0
AreEditsOf b e reads rs t [] [] = Unit {0}
AreEditsOf b e reads rs t [] (i ∷ is) = ⊥
AreEditsOf b e reads rs t (u ∷ us) [] = ⊥
AreEditsOf b e reads rs t (u ∷ us) (i ∷ is) =
    IsEditOf b e reads rs t u i × ((j : ℕ) → Contains is j → j ≢ i)
    × AreEditsOf b e reads rs t us is
