-- The edits of one leaf after another, each as long as what stands suffices for it (docs/volume.md, "Bodies in
-- extents"). A key is its rank.
use Rattle.std.specs.Prelude.{ℕ, ◌∷◌, List}
use Rattle.r4_base.specs.Tree.{Root, Store}
use Rattle.r4_base.specs.Value.{Value}
use Rattle.r4_build.specs.Building.{set_by}
use Rattle.r4_build.specs.Making.{MakeAtMost, StaysOf, changed_in}
use Rattle.r4_build.specs.r4_leaf_edits.Made.{AreOfLeaf}
use Rattle.r4_build.specs.r4_measure.r4_cell.Seen.{CellSeen}
use Rattle.r4_build.specs.r4_measure.r4_cell.declared.change.Fresh.{Fresh}
use Rattle.r4_build.specs.r4_leaf.Remade.{AreWithin, CanPutAll, cut_all}
use Rattle.r4_build.specs.r4_leaf.Units.{LeafUnit}
use Rattle.r4_build.specs.r4_leaf.declared.remaking.Given.{Given}
use Rattle.r4_build.specs.r4_leaf.declared.remaking.KeyRange.{KeyRange}
use Rattle.r4_build.specs.r4_work.Remaking.{Changes, CutsWithin, HaveKeys}
use Rattle.r4_build.specs.r4_work.Working.{IsWorking}
use Rattle.r4_build.specs.r4_work.declared.working.WorkingSet.{WorkingSet}
use Rattle.r4_content.specs.Edited.{Edits}

-- Any leaf of this range can get these edits: the ranges of keys that go and the items lie in it, and the items may be
-- put among what is left of its units.
pub record AreForRange (lo hi : ℕ) (cuts : List KeyRange) (items : List Given) : Type 0 where
  pub cuts_within : CutsWithin lo hi cuts
  pub within : AreWithin lo hi items
  pub keys : HaveKeys items
  pub can : (us : List LeafUnit) → AreOfLeaf lo hi us → CanPutAll items (cut_all cuts us)

-- The edits are made that lie in the cell. No more cells come than might before.
pub record IsEditedAt (t : Store Value) (r : Root) (e : Edits) (c : CellSeen)
    (before after : Fresh) (w now : WorkingSet) : Type 0 where
  pub working : IsWorking t r after now
  pub changes : Changes w now (changed_in e c) (set_by e)
  pub stays : StaysOf before after w now
  pub few : (most : ℕ) (cells : List CellSeen) → MakeAtMost most t r e (c ∷ cells) before w
      → MakeAtMost most t r e cells after now
