-- What an edit of a twig does to units (docs/volume.md, "Edits").
use Rattle.std.specs.Prelude.{◌≡◌, ℕ, ◌<◌, ◌≤◌, Bool, List, [], ◌∷◌, ◌++◌, Contains, Option, None}
use Rattle.std.specs.Prelude.{Some}
use Rattle.std.specs.Option.{is_some}
use Rattle.r4_base.specs.Cell.{item_end, item_units}
use Rattle.r4_base.specs.Key.{rank}
use Rattle.r4_base.specs.Node.{Item}
use Rattle.r4_base.specs.Tree.{Root, Store}
use Rattle.r4_base.specs.Value.{Value}
use Rattle.r4_work.specs.r4_cell.Patch.{IsChange, Patch, patch_of}
use Rattle.r4_work.specs.r4_cell.Seen.{CellSeen}
use Rattle.r4_work.specs.r4_cell.declared.change.Change.{Change}
use Rattle.r4_work.specs.r4_cell.declared.change.Fresh.{Fresh}
use Rattle.r4_work.specs.r4_cell.declared.change.Root.{Root as RootPair}
use Rattle.r4_work.specs.r4_leaf.Units.{is_between}
use Rattle.r4_work.specs.r4_patch.Effect.{HasEffect, Placed, in_extent, in_leaf}
use Rattle.r4_work.specs.r4_patch.Part.{MeetsPart}
use Rattle.r4_work.specs.r4_path.Levels.{units_of_cells}
use Rattle.r4_work.specs.r4_path.Nodes.{IsPointable}
use Rattle.r4_work.specs.r4_path.Sharing.{IsSound}
use Rattle.r4_work.specs.Remaking.{value_in}

-- the change's cells with data blocks that come, as one patch
abbrev pub patch_with : Change → (blocks : List CellSeen) → Patch Value
patch_with c blocks = patch_of c.old (c.new ++ blocks) c.root

-- With the blocks the change is a patch that this part of a tree meets.
pub record IsMadeIn (t : Store Value) (r : Root) (c : Change)
    (blocks : List CellSeen) : Type 0 where
  pub change : IsChange c.old (c.new ++ blocks) c.root
  pub meets : MeetsPart (patch_with c blocks) t r

-- At the keys of a set it leaves the values of a function, and elsewhere what stood there. The
-- names of its new cells that no old one has are numbers that were taken, and a new root may be
-- named.
pub record EditsUnits (c : Change) (blocks : List CellSeen) (before after : Fresh) (at : ℕ → Bool)
    (to : ℕ → Option (Placed Value)) : Type 0 where
  pub effect : HasEffect (patch_with c blocks) at to
  pub names : (x : CellSeen) → Contains c.new x → (patch_with c blocks).old x.id ≡ None
      → (before.next ≤ x.id) × (x.id < after.next)
  pub root_number : (x : RootPair) → c.root ≡ Some x → IsPointable x.id.0

-- the keys of an item's range
abbrev pub item_keys : Item → ℕ → Bool
item_keys it = is_between (rank it.key) (item_end it)

-- what stands at a key where an extent does: the zeros of its holes, and the bytes of its blocks,
-- padding included
abbrev pub extent_values : Item → (blocks : List CellSeen) → ℕ → Option (Placed Value)
extent_values it blocks k = in_extent (value_in (item_units it ++ units_of_cells blocks) k)

-- the keys of an item's own units, and what stands there in a leaf
abbrev pub own_keys : Item → ℕ → Bool
own_keys it k = is_some (value_in (item_units it) k)

abbrev pub leaf_values : Item → ℕ → Option (Placed Value)
leaf_values it k = in_leaf (value_in (item_units it) k)

-- nothing at any key
abbrev pub no_values : ℕ → Option (Placed Value)
no_values k = None

-- the lowest cell of a path may stand in memory
abbrev pub MayStandUp : List CellSeen → Type 0
MayStandUp [] = ⊥
MayStandUp (c ∷ cells) = IsSound c
