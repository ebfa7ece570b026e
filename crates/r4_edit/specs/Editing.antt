-- A leaf whose units change, and the path above it (docs/volume.md, "Edits").
use Rattle.std.specs.Prelude.{◌≡◌, ◌⊎◌, ℕ, ◌+◌, ◌-◌, ◌/◌, ◌<◌, ◌≤◌, List, [], ◌∷◌, Contains, drop, length, min, reverse, take}
use Rattle.std.specs.Prelude.{Option, None, Some}
use Rattle.r4_base.specs.Cell.{item_end, item_units}
use Rattle.r4_base.specs.Key.{rank}
use Rattle.r4_base.specs.Node.{Item, mkfs_id_of}
use Rattle.r4_base.specs.Tree.{Root, Store}
use Rattle.r4_base.specs.Value.{Value}
use Rattle.r4_base.specs.declared.key.Key.{Key}
use Rattle.r4_path.specs.r4_cell.Seen.{CellSeen, node_of}
use Rattle.r4_path.specs.r4_cell.declared.change.Change.{Change}
use Rattle.r4_path.specs.r4_cell.declared.change.Fresh.{Fresh}
use Rattle.r4_path.specs.r4_leaf.Leaves.{AreApart, AreFew, HaveMkfsId, Packs}
use Rattle.r4_path.specs.r4_leaf.Units.{LeafUnit, cut_units, leaf_bytes, put_units}
use Rattle.r4_path.specs.r4_leaf.declared.leaf.Leaf.{Leaf}
use Rattle.r4_path.specs.r4_patch.Joining.{ids_of}
use Rattle.r4_path.specs.Growing.{IsPathIn}
use Rattle.r4_path.specs.Levels.{AreNeeded, AreRows, HasLevels, HaveMkfsIdOf, IsLongEnough, IsRootNeeded, KeepMkfsIds, Keeps}
use Rattle.r4_path.specs.Levels.{units_of_cells}
use Rattle.r4_path.specs.Sharing.{IsSound}
use Rattle.r4_path.specs.Steps.{Climbs, CountUp, Ends, IsStep, Step, fresh_ids, olds}
use Rattle.r4_path.specs.LeafSteps.{leaf_cells}
use Rattle.r4_path.specs.Nodes.{IsPointable}

-- ---- a leaf that is to have other units

-- How many cells come beside the leaf's one at most: one for each 1024 bytes that are too many for a leaf, or a part of these.
abbrev pub extra_cells : List LeafUnit → ℕ
extra_cells us = (leaf_bytes us - 4068 + 1023) / 1024

-- The leaf is the lowest of a path of this part of a tree, with the cells above it that pointers to further leaves may ask
-- for, where it is to have these units.
pub record IsEditedIn (t : Store Value) (r : Root) (us : List LeafUnit) (leaf : CellSeen) (ups : List CellSeen)
    (fresh : Fresh) : Type 0 where
  pub path : IsPathIn t r (leaf ∷ ups) fresh
  pub level : leaf.level ≡ 1
  pub enough : (leaf_bytes us ≤ 4068) ⊎ IsLongEnough r (extra_cells us) leaf ups

-- The leaves have these units in their order, share out the leaf's range, and are not more than are needed.
pub record AreLeavesOf (leaf : CellSeen) (us : List LeafUnit) (leaves : List Leaf) : Type 0 where
  pub packs : Packs (rank leaf.lo) (rank leaf.hi) us leaves
  pub few : AreFew us leaves

-- These leaves come in the place of the path's, with its mkfs_id, and there are numbers for all that may come.
pub record IsReplacedIn (t : Store Value) (r : Root) (us : List LeafUnit) (leaves : List Leaf) (leaf : CellSeen)
    (ups : List CellSeen) (fresh : Fresh) : Type 0 where
  pub edited : IsEditedIn t r us leaf ups fresh
  pub leaves_are : AreLeavesOf leaf us leaves
  pub mkfs_id : HaveMkfsId (mkfs_id_of leaf.block) leaves
  pub numbers : fresh.next + (1 + length ups) + min 15 (extra_cells us) < fresh.end

-- The lowest step puts one cell in the leaf's place, or more, where its units do not fit into one; these have the units in
-- their order, and each but the last had no room for the next one's first. The steps go up the path, with the next numbers.
-- The mkfs_ids are kept.
pub record Edits (leaf : CellSeen) (ups : List CellSeen) (us : List LeafUnit) (before after : Fresh)
    (change : Change) : Type 0 where
  pub lowest : Step
  pub more : List Step
  pub over : Option CellSeen
  pub levels : HasLevels (lowest ∷ more) over change
  pub old : lowest.old ≡ leaf
  pub leaves : List Leaf
  pub packs : Packs (rank leaf.lo) (rank leaf.hi) us leaves
  pub cells : lowest.new ≡ leaf_cells leaf.id before.next leaf.hi leaves
  pub ups_are : olds more ≡ take (length more) ups
  pub units : units_of_cells lowest.new ≡ us
  pub one : leaf_bytes us ≤ 4068 → length lowest.new ≡ 1
  pub several : 4068 < leaf_bytes us → (2 ≤ length lowest.new) × (length lowest.new ≤ 1 + extra_cells us)
  pub climbs : Climbs None (lowest ∷ more)
  pub keep : (u : Step) → Contains more u → Keeps u
  pub needed : AreNeeded (lowest ∷ more)
  pub rows : AreRows (lowest ∷ more) over
  pub ends : (r : Root) → (length lowest.new ≡ 1) ⊎ IsLongEnough r (length (drop 1 lowest.new)) leaf ups
      → Ends r (lowest ∷ more) over
  pub root_needed : IsRootNeeded (lowest ∷ more) over
  pub root_able : (d : CellSeen) → over ≡ Some d → IsPointable d.id
  pub mkfs_ids : KeepMkfsIds (lowest ∷ more) over
  pub root_units : (d : CellSeen) → over ≡ Some d → (node_of d).units ≡ []
  pub counts : CountUp before.next (fresh_ids (lowest ∷ more) over)
  pub number : after ≡ record before { next = before.next + length (fresh_ids (lowest ∷ more) over) }

-- ---- an item that is put in

-- an item by its parts
abbrev pub given_item : Key → (plugin : ℕ) → (body : List ℕ) → Item
given_item key plugin body = record { key = key; plugin = plugin; body = body }

-- the leaf's units with those of the item
abbrev pub after_insert : Item → CellSeen → List LeafUnit
after_insert it leaf = put_units (item_units it) (node_of leaf).units

-- The item belongs to the leaf, which has no unit of a key of its units.
pub record IsInsertedIn (t : Store Value) (r : Root) (it : Item) (leaf : CellSeen) (ups : List CellSeen)
    (fresh : Fresh) : Type 0 where
  pub edited : IsEditedIn t r (after_insert it leaf) leaf ups fresh
  pub from : rank leaf.lo ≤ rank it.key
  pub to : item_end it ≤ rank leaf.hi
  pub apart : AreApart (node_of leaf).units (item_units it)

-- ---- units that are cut out

-- the leaf's units but those whose keys are from one on and below another
abbrev pub after_cut : (from to : Key) → CellSeen → List LeafUnit
after_cut from to leaf = cut_units (rank from) (rank to) (node_of leaf).units

-- The keys from one on and below the other belong to the leaf.
pub record IsCutOutIn (t : Store Value) (r : Root) (from to : Key) (leaf : CellSeen) (ups : List CellSeen)
    (fresh : Fresh) : Type 0 where
  pub edited : IsEditedIn t r (after_cut from to leaf) leaf ups fresh
  pub order : rank from < rank to
  pub low : rank leaf.lo ≤ rank from
  pub high : rank to ≤ rank leaf.hi

-- ---- the same of a path that is given from the top down

abbrev pub extra_up : (after : CellSeen → List LeafUnit) → List CellSeen → ℕ
extra_up after [] = 0
extra_up after (leaf ∷ ups) = extra_cells (after leaf)

-- How many cells come beside the path's leaf at most, where it has other units afterwards; there are never more than 15.
abbrev pub extra_for : (after : CellSeen → List LeafUnit) → (path : List CellSeen) → ℕ
extra_for after path = min 15 (extra_up after (reverse path))

abbrev pub EditsUp : (after : CellSeen → List LeafUnit) → (before now : Fresh) → Change → List CellSeen → Type 0
EditsUp after before now change [] = ⊥
EditsUp after before now change (leaf ∷ ups) = Edits leaf ups (after leaf) before now change

abbrev pub IsReplacedUp : Store Value → Root → List LeafUnit → List Leaf → Fresh → List CellSeen → Type 0
IsReplacedUp t r us leaves fresh [] = ⊥
IsReplacedUp t r us leaves fresh (leaf ∷ ups) = IsReplacedIn t r us leaves leaf ups fresh

abbrev pub IsInsertedUp : Store Value → Root → Item → Fresh → List CellSeen → Type 0
IsInsertedUp t r it fresh [] = ⊥
IsInsertedUp t r it fresh (leaf ∷ ups) = IsInsertedIn t r it leaf ups fresh

abbrev pub IsInsertIn : Store Value → Root → (path : List CellSeen) → Item → Fresh → Type 0
IsInsertIn t r path it fresh = IsInsertedUp t r it fresh (reverse path)

abbrev pub Inserts : (path : List CellSeen) → Item → (before after : Fresh) → Change → Type 0
Inserts path it before after change = EditsUp (after_insert it) before after change (reverse path)

abbrev pub IsCutOutUp : Store Value → Root → (from to : Key) → Fresh → List CellSeen → Type 0
IsCutOutUp t r from to fresh [] = ⊥
IsCutOutUp t r from to fresh (leaf ∷ ups) = IsCutOutIn t r from to leaf ups fresh

abbrev pub IsCutOfLeafIn : Store Value → Root → (path : List CellSeen) → (from to : Key) → Fresh → Type 0
IsCutOfLeafIn t r path from to fresh = IsCutOutUp t r from to fresh (reverse path)

abbrev pub Cuts : (path : List CellSeen) → (from to : Key) → (before after : Fresh) → Change → Type 0
Cuts path from to before after change = EditsUp (after_cut from to) before after change (reverse path)
