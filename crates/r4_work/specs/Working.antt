-- The cells of a task, with what was changed of them so far (docs/volume.md, "The working set").
use Rattle.std.specs.Prelude.{◌≡◌, ℕ, zero, suc, ◌+◌, ◌<◌, ◌++◌, false, List, [], ◌∷◌, Contains, Option, None, Some}
use Rattle.std.specs.List.Sorted.{IsPermutation}
use Rattle.r4_base.specs.Tree.{Root, Store}
use Rattle.r4_base.specs.Value.{Value}
use Rattle.r4_edit.specs.r4_cell.Patch.{IsChange, place, root_after}
use Rattle.r4_edit.specs.r4_cell.Seen.{CellSeen, node_of}
use Rattle.r4_edit.specs.r4_cell.declared.change.Change.{Change}
use Rattle.r4_edit.specs.r4_cell.declared.change.Fresh.{Fresh}
use Rattle.r4_edit.specs.r4_cell.declared.change.Root.{Root as RootPair}
use Rattle.r4_edit.specs.r4_patch.Effect.{HasEffect}
use Rattle.r4_edit.specs.r4_patch.Following.{IsFollowed, without}
use Rattle.r4_edit.specs.r4_patch.Joining.{ids_of, patch_of_change}
use Rattle.r4_edit.specs.r4_patch.Part.{IsPart, MeetsPart}
use Rattle.r4_edit.specs.r4_path.Nodes.{IsPointable}
use Rattle.r4_edit.specs.r4_path.Steps.{IsFree, OnlyTakes}
use Rattle.r4_work.specs.Order.{AreInOrder, cell_at}
use Rattle.r4_work.specs.declared.working.WorkingSet.{WorkingSet}

-- the part of a tree with what was changed in place, and its root
abbrev pub now_of : WorkingSet → Store Value → Store Value
now_of w t = place (patch_of_change w.change) t

abbrev pub root_of : WorkingSet → Root → Root
root_of w r = root_after (patch_of_change w.change) r

-- the cells that stand: those that were made, and the task's that are not replaced
abbrev pub standing : WorkingSet → List CellSeen
standing w = w.made ++ w.kept

-- What was changed is one change of this part of a tree, and its new cells are those that were made. The other cells
-- stand in the part with the change in place, and the fresh numbers are free there.
pub record IsWorking (t : Store Value) (r : Root) (fresh : Fresh) (w : WorkingSet) : Type 0 where
  pub part : IsPart t r
  pub change : IsChange w.change.old w.change.new w.change.root
  pub meets : MeetsPart (patch_of_change w.change) t r
  pub made : IsPermutation w.change.new w.made
  pub kept : (c : CellSeen) → Contains w.kept c → now_of w t c.id ≡ Some (node_of c)
  pub free : IsFree fresh.next fresh.end (now_of w t)
  pub root_number : IsPointable (root_of w r).id

-- ---- the start

-- These cells stand, in order, and none is changed.
pub record IsStart (cells : List CellSeen) (w : WorkingSet) : Type 0 where
  pub kept : IsPermutation cells w.kept
  pub order : AreInOrder w.kept
  pub made : w.made ≡ []
  pub old : w.change.old ≡ []
  pub new : w.change.new ≡ []
  pub root : w.change.root ≡ None

-- The change so far changes nothing.
abbrev pub HasNoEffect : WorkingSet → Type 0
HasNoEffect w = HasEffect (patch_of_change w.change) (λ k. false) (λ k. None)

-- The cells are cells of this part of a tree, where the fresh numbers are free.
pub record AreCellsIn (t : Store Value) (r : Root) (fresh : Fresh) (cells : List CellSeen)
    : Type 0 where
  pub part : IsPart t r
  pub stand : (c : CellSeen) → Contains cells c → t c.id ≡ Some (node_of c)
  pub free : IsFree fresh.next fresh.end t
  pub root_number : IsPointable r.id

-- ---- one change more

-- The change is one of the part as it stands, and its new names are numbers that were taken.
pub record IsNextEdit (t : Store Value) (r : Root) (w : WorkingSet) (before after : Fresh)
    (d : Change) : Type 0 where
  pub change : IsChange d.old d.new d.root
  pub meets : MeetsPart (patch_of_change d) (now_of w t) (root_of w r)
  pub names : (c : CellSeen) → Contains d.new c → (patch_of_change d).old c.id ≡ None
      → c.id < after.next
  pub takes : OnlyTakes before after
  pub root : (x : RootPair) → d.root ≡ Some x → IsPointable x.id.0

-- The set has the change too; the cells that it replaces stand no more, and its new cells stand.
pub record IsPutInPlace (w : WorkingSet) (d : Change) (now : WorkingSet) : Type 0 where
  pub kept : now.kept ≡ without (ids_of d.old) w.kept
  pub followed : IsFollowed w.change d now.change
  pub made : IsPermutation now.change.new now.made

-- ---- the path to a key

abbrev pub first_and : Option CellSeen → List CellSeen → List CellSeen
first_and None rest = []
first_and (Some c) rest = c ∷ rest

-- the cells that have the key, from a level on, as long as there is one on the next level
unfoldable pub ups_of : (most : ℕ) → List CellSeen → (level k : ℕ) → List CellSeen
ups_of zero cells level k = []
ups_of (suc n) cells level k = first_and (cell_at cells level k) (ups_of n cells (level + 1) k)

-- the standing leaf that has the key, and the cells above it, the lowest first
abbrev pub path_of : WorkingSet → (k : ℕ) → List CellSeen
path_of w k = ups_of 8 (standing w) 1 k

-- the standing twig that has the key, and the cells above it, the lowest first
abbrev pub twig_path_of : WorkingSet → (k : ℕ) → List CellSeen
twig_path_of w k = ups_of 7 (standing w) 2 k
