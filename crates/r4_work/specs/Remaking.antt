-- All edits of a leaf that stands (docs/volume.md, "The working set").
use Rattle.std.specs.Prelude.{◌≡◌, ◌⊎◌, ℕ, ◌+◌, ◌<◌, ◌≤◌, ◌||◌, ◌==◌, if◌then◌else◌, Bool, false, List, [], ◌∷◌}
use Rattle.std.specs.Prelude.{length, min, Option, None, Some}
use Rattle.std.specs.Option.{is_some, option_or}
use Rattle.r4_base.specs.Cell.{item_units}
use Rattle.r4_base.specs.Key.{IsKey, rank}
use Rattle.r4_base.specs.Tree.{Root, Store}
use Rattle.r4_base.specs.Value.{Value}
use Rattle.r4_base.specs.declared.key.Key.{Key}
use Rattle.r4_edit.specs.r4_cell.Patch.{IsChange}
use Rattle.r4_edit.specs.r4_cell.Seen.{CellSeen, node_of}
use Rattle.r4_edit.specs.r4_cell.declared.change.Change.{Change}
use Rattle.r4_edit.specs.r4_cell.declared.change.Fresh.{Fresh}
use Rattle.r4_edit.specs.r4_leaf.Remade.{AreWithin, CanPutAll, cut_all, item_of}
use Rattle.r4_edit.specs.r4_leaf.Units.{LeafUnit, is_between, leaf_bytes}
use Rattle.r4_edit.specs.r4_leaf.declared.remaking.Given.{Given}
use Rattle.r4_edit.specs.r4_leaf.declared.remaking.KeyRange.{KeyRange}
use Rattle.r4_edit.specs.r4_patch.Effect.{HasEffect, Placed, either, in_leaf, later}
use Rattle.r4_edit.specs.r4_patch.Joining.{patch_of_change}
use Rattle.r4_edit.specs.r4_patch.Part.{MeetsPart}
use Rattle.r4_edit.specs.r4_path.Levels.{IsLongEnough}
use Rattle.r4_edit.specs.r4_path.Steps.{OnlyTakes}
use Rattle.r4_edit.specs.Editing.{Edits, extra_cells}
use Rattle.r4_edit.specs.Remaking.{after_edits}
use Rattle.r4_work.specs.Working.{IsPutInPlace, IsWorking, now_of, path_of, root_of}
use Rattle.r4_work.specs.declared.working.WorkingSet.{WorkingSet}

-- ---- what changes

-- the key lies in one of the ranges
abbrev pub cut_keys : List KeyRange → ℕ → Bool
cut_keys [] k = false
cut_keys (c ∷ cs) k = is_between (rank c.from) (rank c.to) k || cut_keys cs k

-- the value of a key among units
abbrev pub value_in : List LeafUnit → ℕ → Option Value
value_in [] k = None
value_in (u ∷ us) k = if u.0 == k then Some u.1 else value_in us k

-- the value of the first of the items that has the key
abbrev pub item_value : List Given → ℕ → Option Value
item_value [] k = None
item_value (g ∷ gs) k = option_or (value_in (item_units (item_of g)) k) (item_value gs k)

-- the keys of the ranges and of the items, and what stands there then
abbrev pub remade_keys : List KeyRange → List Given → ℕ → Bool
remade_keys cuts items k = cut_keys cuts k || is_some (item_value items k)

abbrev pub remade_values : List Given → ℕ → Option (Placed Value)
remade_values items k = in_leaf (item_value items k)

-- ---- when the edits can be made

abbrev pub CutsWithin : (lo hi : ℕ) → List KeyRange → Type 0
CutsWithin lo hi [] = Unit {0}
CutsWithin lo hi (c ∷ cs) = (lo ≤ rank c.from) × (rank c.to ≤ hi) × CutsWithin lo hi cs

abbrev pub HaveKeys : List Given → Type 0
HaveKeys [] = Unit {0}
HaveKeys (g ∷ gs) = IsKey (item_of g).key × HaveKeys gs

-- The leaf is to have these units, and the cells above it suffice; there are numbers for all that may come.
pub record CanEdit (r : Root) (fresh : Fresh) (us : List LeafUnit) (leaf : CellSeen)
    (ups : List CellSeen) : Type 0 where
  pub enough : (leaf_bytes us ≤ 4068) ⊎ IsLongEnough r (extra_cells us) leaf ups
  pub numbers : fresh.next + (1 + length ups) + min 15 (extra_cells us) < fresh.end

-- The ranges and the items are the leaf's, and the items may be put in once the ranges are cut; the path is long enough
-- for the units at the end.
pub record CanRemake (r : Root) (fresh : Fresh) (cuts : List KeyRange) (items : List Given)
    (leaf : CellSeen) (ups : List CellSeen) : Type 0 where
  pub cuts_within : CutsWithin (rank leaf.lo) (rank leaf.hi) cuts
  pub within : AreWithin (rank leaf.lo) (rank leaf.hi) items
  pub keys : HaveKeys items
  pub can : CanPutAll items (cut_all cuts (node_of leaf).units)
  pub small : leaf_bytes (after_edits cuts items leaf) < 58912
  pub edit : CanEdit r fresh (after_edits cuts items leaf) leaf ups

abbrev pub CanRemakeUp : Root → Fresh → List KeyRange → List Given → List CellSeen → Type 0
CanRemakeUp r fresh cuts items [] = ⊥
CanRemakeUp r fresh cuts items (leaf ∷ ups) = CanRemake r fresh cuts items leaf ups

-- The set is one of this part of a tree, and the standing leaf that has the key may be edited so.
pub record IsRemakable (t : Store Value) (r : Root) (fresh : Fresh) (w : WorkingSet) (key : Key)
    (cuts : List KeyRange) (items : List Given) : Type 0 where
  pub working : IsWorking t r fresh w
  pub remake : CanRemakeUp (root_of w r) fresh cuts items (path_of w (rank key))

-- ---- what is made

-- Whatever the first set's change does to units, that of the second does too, but that at the keys of a set these
-- values stand.
abbrev pub Changes : (w now : WorkingSet) → (at : ℕ → Bool) → (to : ℕ → Option (Placed Value))
    → Type 0
Changes w now at to =
    (a : ℕ → Bool) (f : ℕ → Option (Placed Value)) → HasEffect (patch_of_change w.change) a f
    → HasEffect (patch_of_change now.change) (either a at) (later at to f)

-- The path of the key is that of a leaf; the edit of it is one that `change_leaf` makes, and it is put in place.
pub record IsRemade (t : Store Value) (r : Root) (before after : Fresh) (w now : WorkingSet)
    (key : Key) (cuts : List KeyRange) (items : List Given) : Type 0 where
  pub leaf : CellSeen
  pub ups : List CellSeen
  pub path : path_of w (rank key) ≡ leaf ∷ ups
  pub edit : Change
  pub change : IsChange edit.old edit.new edit.root
  pub meets : MeetsPart (patch_of_change edit) (now_of w t) (root_of w r)
  pub edits : Edits leaf ups (after_edits cuts items leaf) before after edit
  pub put : IsPutInPlace w edit now
  pub working : IsWorking t r after now
  pub takes : OnlyTakes before after
