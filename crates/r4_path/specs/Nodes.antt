-- Nodes that are filled item by item (docs/layout.md, "Nodes"), and nodes of pointers.
use Rattle.std.specs.Prelude.{◌≡◌, ℕ, ◌+◌, ◌^◌, ◌<◌, List, [], ◌∷◌, ◌++◌, length, map, slice_get, sum_by, true, Some}
use Rattle.r4_base.specs.Bytes.{number_bytes}
use Rattle.r4_base.specs.Cell.{names_block}
use Rattle.r4_base.specs.Key.{least, rank, top}
use Rattle.r4_base.specs.Node.{Item, items_of, level_of, mkfs_id_of}
use Rattle.r4_base.specs.Tree.{IsNode as IsTreeNode}
use Rattle.r4_patch.specs.r4_cell.Seen.{CellSeen, node_of}
use Rattle.r4_leaf.specs.r4_node40.Laid.{IsNode, room_of}
use Rattle.r4_path.specs.Steps.{name_of}

-- The node has one item more, the last, and its mkfs_id stays.
pub record IsAppended (old : List ℕ) (it : Item) (new : List ℕ) : Type 0 where
  pub node : IsNode new
  pub items : items_of new ≡ items_of old ++ it ∷ []
  pub level : level_of new ≡ level_of old
  pub room : room_of new + length it.body + 38 ≡ room_of old
  pub mkfs_id : mkfs_id_of new ≡ mkfs_id_of old

-- The block is a node of a level with these items; above leaf level it may have none.
pub record IsNodeOf (level : ℕ) (items : List Item) (b : List ℕ) : Type 0 where
  pub node : IsNode b
  pub level_is : level_of b ≡ level
  pub items_are : items_of b ≡ items

-- how many bytes an item takes up, with its header
abbrev pub weight_of : Item → ℕ
weight_of it = 38 + length it.body

abbrev pub weight : List Item → ℕ
weight items = sum_by weight_of items

-- a number that a pointer may hold: one of a node that has no block yet, or that of a block that is not fixed
abbrev pub IsPointable : ℕ → Type 0
IsPointable id = (id < 2 ^ 64) × (names_block true (2 ^ 64) (Some id) ≡ true)

-- the item that points to a cell
abbrev pub pointer_item : CellSeen → Item
pointer_item c = record { key = c.lo; plugin = 3; body = number_bytes 8 c.id }

-- The cell is a root that names these cells, has the mkfs_id of the first of them, and no extents and no units.
pub record IsPointingTo (cells : List CellSeen) (level id : ℕ) (c : CellSeen) : Type 0 where
  pub number : c.id ≡ id
  pub level_is : c.level ≡ level
  pub lo : rank c.lo ≡ least
  pub hi : rank c.hi ≡ top
  pub names : (node_of c).names ≡ map name_of cells
  pub items : items_of c.block ≡ map pointer_item cells
  pub spans : (node_of c).spans ≡ []
  pub units : (node_of c).units ≡ []
  pub node : IsTreeNode (node_of c)
  pub mkfs_id : (first : CellSeen) → slice_get cells 0 ≡ Some first → mkfs_id_of c.block ≡ mkfs_id_of first.block
