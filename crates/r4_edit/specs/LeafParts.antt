-- The parts of a leaf where an extent comes into its range, and leaves that are made for a range (docs/volume.md, "Edits").
use Rattle.std.specs.Prelude.{◌≡◌, ℕ, ◌+◌, ◌<◌, List, [], ◌∷◌, Option, None, Some, nat_le, nat_lt, ◌==◌, if◌then◌else◌}
use Rattle.std.specs.List.{filter}
use Rattle.r4_base.specs.Cell.{item_units, units_in}
use Rattle.r4_base.specs.Key.{IsKey, rank}
use Rattle.r4_base.specs.Node.{Item, items_of, mkfs_id_of}
use Rattle.r4_base.specs.declared.key.Key.{Key}
use Rattle.r4_path.specs.r4_cell.Seen.{CellSeen, node_of}
use Rattle.r4_path.specs.r4_cell.declared.change.Fresh.{Fresh}
use Rattle.r4_path.specs.r4_leaf.Leaves.{MayStand}
use Rattle.r4_path.specs.r4_leaf.Units.{LeafUnit}
use Rattle.r4_path.specs.Sharing.{IsSound}

-- ---- the units of a leaf on the two sides of a key

-- the first unit's key from a key on
abbrev pub first_from : (key : ℕ) → List LeafUnit → Option ℕ
first_from k [] = None
first_from k (u ∷ us) = if nat_le k u.0 then Some u.0 else first_from k us

-- the units below a key, and those from it on
abbrev pub units_below : (key : ℕ) → List LeafUnit → List LeafUnit
units_below k us = filter (λ u. nat_lt u.0 k) us

abbrev pub units_from : (key : ℕ) → List LeafUnit → List LeafUnit
units_from k us = filter (λ u. nat_le k u.0) us

-- the key of the first item
abbrev pub first_item_key : List Item → Option Key
first_item_key [] = None
first_item_key (x ∷ xs) = Some x.key

-- The block may stand in the leaf's place, and has these units, and the leaf's mkfs_id.
pub record HasUnits (leaf : CellSeen) (us : List LeafUnit) (b : List ℕ) : Type 0 where
  pub stands : MayStand (rank leaf.lo) (rank leaf.hi) b
  pub units : units_in (items_of b) ≡ us
  pub mkfs_id : mkfs_id_of b ≡ mkfs_id_of leaf.block

-- ---- a leaf that is parted at a key

-- The part before the key: the leaf with less range.
pub record IsLeftPart (leaf : CellSeen) (key : Key) (c : CellSeen) : Type 0 where
  pub number : c.id ≡ leaf.id
  pub level_is : c.level ≡ 1
  pub from : c.lo ≡ leaf.lo
  pub to : c.hi ≡ key
  pub units : (node_of c).units ≡ units_below (rank key) (node_of leaf).units
  pub sound : IsSound c
  pub mkfs_id : mkfs_id_of c.block ≡ mkfs_id_of leaf.block

-- The part behind it: from its first unit on, with this number.
pub record IsRightPart (leaf : CellSeen) (key : Key) (id : ℕ) (c : CellSeen) : Type 0 where
  pub number : c.id ≡ id
  pub level_is : c.level ≡ 1
  pub from : first_from (rank key) (node_of leaf).units ≡ Some (rank c.lo)
  pub whole_key : IsKey c.lo
  pub to : c.hi ≡ leaf.hi
  pub units : (node_of c).units ≡ units_from (rank key) (node_of leaf).units
  pub sound : IsSound c
  pub mkfs_id : mkfs_id_of c.block ≡ mkfs_id_of leaf.block

-- there is a left part unless the key is the leaf's first
abbrev pub HasLeft : CellSeen → Key → Option CellSeen → Type 0
HasLeft leaf key None = rank key ≡ rank leaf.lo
HasLeft leaf key (Some c) = (rank leaf.lo < rank key) × IsLeftPart leaf key c

-- there is a right part where a unit has the key or one behind it
abbrev pub HasRight : CellSeen → Key → (id : ℕ) → Option CellSeen → Type 0
HasRight leaf key id None = first_from (rank key) (node_of leaf).units ≡ None
HasRight leaf key id (Some c) = IsRightPart leaf key id c

-- the number of the right part: the leaf's where there is no left one, and else the next fresh one
abbrev pub right_id : CellSeen → Key → Fresh → ℕ
right_id leaf key fresh = if rank key == rank leaf.lo then leaf.id else fresh.next

-- how many fresh numbers the right part takes
abbrev pub right_takes : CellSeen → Key → Option CellSeen → ℕ
right_takes leaf key None = 0
right_takes leaf key (Some c) = if rank key == rank leaf.lo then 0 else 1

-- These are the parts of the leaf at the key, of which the right one may have taken a number.
pub record PartsLeaf (leaf : CellSeen) (key : Key) (before after : Fresh) (left right : Option CellSeen) : Type 0 where
  pub left_is : HasLeft leaf key left
  pub right_is : HasRight leaf key (right_id leaf key before) right
  pub number : after ≡ record before { next = before.next + right_takes leaf key right }

-- ---- leaves that are made

-- The cell is a leaf with this number, for this range, with these units and this mkfs_id.
pub record IsNewLeaf (id : ℕ) (lo hi : Key) (us : List LeafUnit) (mkfs_id : ℕ) (c : CellSeen) : Type 0 where
  pub number : c.id ≡ id
  pub level_is : c.level ≡ 1
  pub from : c.lo ≡ lo
  pub to : c.hi ≡ hi
  pub units : (node_of c).units ≡ us
  pub sound : IsSound c
  pub mkfs_id_is : mkfs_id_of c.block ≡ mkfs_id

-- a leaf with the item alone, from its key up to another one
abbrev pub IsLeafOf : Item → (id : ℕ) → (hi : Key) → (mkfs_id : ℕ) → CellSeen → Type 0
IsLeafOf it id hi mkfs_id c = IsNewLeaf id it.key hi (item_units it) mkfs_id c

abbrev pub IsEmptyLeaf : (id : ℕ) → (lo hi : Key) → (mkfs_id : ℕ) → CellSeen → Type 0
IsEmptyLeaf id lo hi mkfs_id c = IsNewLeaf id lo hi [] mkfs_id c

-- The leaf with another end of its range.
pub record IsWidened (leaf : CellSeen) (hi : Key) (c : CellSeen) : Type 0 where
  pub is : c ≡ record leaf { hi = hi }
  pub units : (node_of c).units ≡ (node_of leaf).units
  pub sound : IsSound c
