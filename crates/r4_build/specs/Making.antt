-- The edits of one leaf after another, among the cells of a task (docs/volume.md, "Building").
use Rattle.std.specs.Prelude.{◌≡◌, ◌⊎◌, ℕ, ◌<◌, ◌≤◌, ◌==◌, ◌&&◌, ◌||◌, Bool, true, false, List, [], ◌∷◌}
use Rattle.std.specs.Prelude.{Contains, length}
use Rattle.r4_base.specs.Key.{rank}
use Rattle.r4_base.specs.Tree.{Root, Store}
use Rattle.r4_base.specs.Value.{Value}
use Rattle.r4_measure.specs.r4_cell.Seen.{CellSeen, node_of}
use Rattle.r4_measure.specs.r4_cell.declared.change.Fresh.{Fresh}
use Rattle.r4_content.specs.Edited.{Edits, changed, is_between, is_in}
use Rattle.r4_measure.specs.r4_leaf.Remade.{AreWithin}
use Rattle.r4_leaf_edits.specs.Made.{MakesEdits}
use Rattle.r4_measure.specs.r4_patch.Joining.{ids_of}
use Rattle.r4_measure.specs.r4_reach.Needs.{is_met}
use Rattle.r4_measure.specs.r4_work.Remaking.{Changes, CutsWithin, HaveKeys}
use Rattle.r4_measure.specs.r4_work.Working.{IsWorking, standing}
use Rattle.r4_measure.specs.r4_work.declared.working.WorkingSet.{WorkingSet}
use Rattle.r4_measure.specs.Loop.{CanRemakeAll, LeafTurn, StandAtMost}
use Rattle.r4_build.specs.Building.{set_by}

-- The cell is a leaf with a key that changes, and these are its edits.
pub record IsTurnOf (e : Edits) (c : CellSeen) (u : LeafTurn) : Type 0 where
  pub level : c.level ≡ 1
  pub touched : is_met (changed e) (rank c.lo) (rank c.hi) ≡ true
  pub key : u.key ≡ c.lo
  pub cuts_within : CutsWithin (rank c.lo) (rank c.hi) u.cuts
  pub within : AreWithin (rank c.lo) (rank c.hi) u.items
  pub keys : HaveKeys u.items
  pub makes : MakesEdits (rank c.lo) (rank c.hi) e u.cuts u.items (node_of c).units

-- They are the edits of some of the cells, in their order.
abbrev pub AreTurnsOf : Edits → List CellSeen → List LeafTurn → Type 0
AreTurnsOf e [] us = us ≡ []
AreTurnsOf e (c ∷ cs) us = AreTurnsOf e cs us
    ⊎ ((u : LeafTurn) × (rest : List LeafTurn) × (us ≡ u ∷ rest) × IsTurnOf e c u
    × AreTurnsOf e cs rest)

-- The set is one of this part of a tree, and the edits of leaves among these cells may be made, whichever they are.
pub record CanMake (t : Store Value) (r : Root) (e : Edits) (cells : List CellSeen) (f : Fresh)
    (w : WorkingSet) : Type 0 where
  pub working : IsWorking t r f w
  pub turns : (us : List LeafTurn) → AreTurnsOf e cells us → CanRemakeAll t r us f w

-- Where all edits of leaves among these cells are made, whichever they are, no more cells stand than so many.
abbrev pub MakeAtMost : (most : ℕ) → Store Value → Root → Edits → List CellSeen → Fresh → WorkingSet
    → Type 0
MakeAtMost most t r e cells f w =
    (us : List LeafTurn) → AreTurnsOf e cells us → StandAtMost most t r us f w

-- ---- what is made

-- the keys that change in a cell, if it is a leaf, and in all of the cells
abbrev pub changed_in : Edits → CellSeen → ℕ → Bool
changed_in e c k = (c.level == 1) && (is_between (rank c.lo) (rank c.hi) k && is_in (changed e) k)

abbrev pub changed_among : Edits → List CellSeen → ℕ → Bool
changed_among e [] k = false
changed_among e (c ∷ cs) k = changed_in e c k || changed_among e cs k

-- The change's old cells and those that are not replaced are among these; its new cells have the numbers of old ones,
-- or numbers from the first on that were taken.
pub record IsOf (cells : List CellSeen) (first : ℕ) (f : Fresh) (w : WorkingSet) : Type 0 where
  pub old : (c : CellSeen) → Contains w.change.old c → Contains cells c
  pub kept : (c : CellSeen) → Contains w.kept c → Contains cells c
  pub new : (c : CellSeen) → Contains w.change.new c
      → Contains (ids_of w.change.old) c.id ⊎ ((first ≤ c.id) × (c.id < f.next))

-- What was of these cells is still of them.
abbrev pub StaysOf : (before after : Fresh) → (w now : WorkingSet) → Type 0
StaysOf before after w now = (cells : List CellSeen) (first : ℕ) → first ≤ before.next
    → IsOf cells first before w → IsOf cells first after now

-- The edits are made that lie in the cell, and those of the other cells may still be made. No more cells come than
-- might before.
pub record IsMadeIn (t : Store Value) (r : Root) (e : Edits) (c : CellSeen) (cells : List CellSeen)
    (before after : Fresh) (w now : WorkingSet) : Type 0 where
  pub changes : Changes w now (changed_in e c) (set_by e)
  pub stays : StaysOf before after w now
  pub rest : CanMake t r e cells after now
  pub few : (most : ℕ) → MakeAtMost most t r e (c ∷ cells) before w
      → MakeAtMost most t r e cells after now

-- The edits are made that lie in the cells. No more cells come than might before.
pub record AreMadeIn (t : Store Value) (r : Root) (e : Edits) (cells : List CellSeen)
    (before after : Fresh) (w now : WorkingSet) : Type 0 where
  pub working : IsWorking t r after now
  pub changes : Changes w now (changed_among e cells) (set_by e)
  pub stays : StaysOf before after w now
  pub few : (most : ℕ) → MakeAtMost most t r e cells before w → length (standing now) ≤ most
