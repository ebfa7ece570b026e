-- Edits of leaves, each leaf once, one after the other (docs/volume.md, "What may still come").
use Rattle.std.specs.Prelude.{◌≡◌, ◌≢◌, ℕ, ◌<◌, ◌≤◌, List, [], ◌∷◌, Contains, Some, length}
use Rattle.r4_base.specs.Key.{rank}
use Rattle.r4_base.specs.Tree.{Node, Root, Store}
use Rattle.r4_base.specs.Value.{Value}
use Rattle.r4_base.specs.declared.key.Key.{Key}
use Rattle.r4_reach.specs.r4_cell.Seen.{CellSeen}
use Rattle.r4_reach.specs.r4_cell.declared.change.Fresh.{Fresh}
use Rattle.r4_reach.specs.r4_leaf.Remade.{AreWithin, CanPutAll, cut_all, put_all}
use Rattle.r4_reach.specs.r4_leaf.Units.{LeafUnit, leaf_bytes}
use Rattle.r4_reach.specs.r4_leaf.declared.remaking.Given.{Given}
use Rattle.r4_reach.specs.r4_leaf.declared.remaking.KeyRange.{KeyRange}
use Rattle.r4_work.specs.r4_edit.Editing.{extra_cells}
use Rattle.r4_work.specs.Remaking.{CutsWithin, HaveKeys, IsRemade, IsRemakable}
use Rattle.r4_work.specs.Working.{now_of, standing}
use Rattle.r4_work.specs.declared.working.WorkingSet.{WorkingSet}
use Rattle.r4_measure.specs.Budget.{Budget}

-- all edits of the leaf that has a key
pub record LeafTurn : Type 0 where
  pub key : Key
  pub cuts : List KeyRange
  pub items : List Given

-- the units of a leaf after all of its edits
abbrev pub units_now : LeafTurn → Node Value → List LeafUnit
units_now e c = put_all e.items (cut_all e.cuts c.units)

-- They are made: what the call says that makes them.
abbrev pub IsDone : Store Value → Root → (before after : Fresh) → (w now : WorkingSet) → LeafTurn
    → Type 0
IsDone t r before after w now e = IsRemade t r before after w now e.key e.cuts e.items

-- The first may be made, and whatever it leaves, the others.
abbrev pub CanRemakeAll : Store Value → Root → List LeafTurn → Fresh → WorkingSet → Type 0
CanRemakeAll t r [] f w = Unit {0}
CanRemakeAll t r (e ∷ es) f w =
    IsRemakable t r f w e.key e.cuts e.items
    × ((g : Fresh) (v : WorkingSet) → IsDone t r f g w v e → CanRemakeAll t r es g v)

-- Where all of them are made, no more cells stand than so many.
abbrev pub StandAtMost : (most : ℕ) → Store Value → Root → List LeafTurn → Fresh → WorkingSet
    → Type 0
StandAtMost most t r [] f w = length (standing w) ≤ most
StandAtMost most t r (e ∷ es) f w =
    (g : Fresh) (v : WorkingSet) → IsDone t r f g w v e → StandAtMost most t r es g v

-- The leaf of this number stands and has the key; the edits are its own, and what comes beside it is in the budget.
pub record IsReady (t : Store Value) (w : WorkingSet) (b : Budget) (e : LeafTurn) (i : ℕ)
    : Type 0 where
  pub node : Node Value
  pub at : now_of w t i ≡ Some node
  pub stands : (x : CellSeen) × Contains (standing w) x × (x.id ≡ i)
  pub level : node.level ≡ 1
  pub key : (node.lo ≤ rank e.key) × (rank e.key < node.hi)
  pub cuts_within : CutsWithin node.lo node.hi e.cuts
  pub within : AreWithin node.lo node.hi e.items
  pub keys : HaveKeys e.items
  pub can : CanPutAll e.items (cut_all e.cuts node.units)
  pub small : leaf_bytes (units_now e node) < 58912
  pub come : extra_cells (units_now e node) ≤ b 1 i

-- each of them, and no two of one leaf
abbrev pub AreReady : Store Value → WorkingSet → Budget → List LeafTurn → List ℕ → Type 0
AreReady t w b [] [] = Unit {0}
AreReady t w b [] (i ∷ is) = ⊥
AreReady t w b (e ∷ es) [] = ⊥
AreReady t w b (e ∷ es) (i ∷ is) =
    IsReady t w b e i × ((j : ℕ) → Contains is j → j ≢ i) × AreReady t w b es is
