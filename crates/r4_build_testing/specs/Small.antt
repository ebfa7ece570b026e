-- A volume of two cells, and commands for which its leaf has room (docs/volume.md, "Building").
use Rattle.std.specs.Prelude.{◌≡◌, ℕ, ◌^◌, ◌≤◌, List, [], ◌∷◌, length, None, false, true}
use Rattle.r4_base.specs.Bytes.{number_bytes}
use Rattle.r4_base.specs.Cell.{cell_fault}
use Rattle.r4_base.specs.Fresh.{HasOneItem}
use Rattle.r4_base.specs.Key.{least, rank, top}
use Rattle.r4_cell.specs.Seen.{CellSeen, node_of}
use Rattle.r4_content.specs.Edited.{Edits}
use Rattle.r4_leaf.specs.Units.{leaf_bytes}
use Rattle.r4_leaf_edits.specs.Suiting.{SuitLeaves}
use Rattle.r4_reach.specs.Needs.{units_after}
use Rattle.r4_build.specs.Building.{HaveLawfulKeys}
use Rattle.r4_turns.specs.declared.out.Scope.{Scope}

-- a cell of this number and level that has all keys
pub record HasAllKeys (id level : ℕ) (c : CellSeen) : Type 0 where
  pub id_is : c.id ≡ id
  pub level_is : c.level ≡ level
  pub lo : rank c.lo ≡ least
  pub hi : rank c.hi ≡ top

-- The cells are the root, a twig that points to leaf 23, and this leaf, whatever it has.
pub record IsSmall (cells : List CellSeen) : Type 0 where
  pub twig : CellSeen
  pub leaf : CellSeen
  pub are : cells ≡ twig ∷ leaf ∷ []
  pub above : HasAllKeys 22 2 twig
  pub below : HasAllKeys 23 1 leaf
  pub pointer : HasOneItem twig.block 2 3 (number_bytes 8 23)
  pub whole : length leaf.block ≡ 4096
  pub stands : cell_fault true (2 ^ 64) leaf.level (rank leaf.lo) (rank leaf.hi) leaf.block ≡ None

-- Edits that leaves can take, of keys that items may have.
pub record AreLawful (e : Edits) : Type 0 where
  pub suit : SuitLeaves 16384 e
  pub keys : HaveLawfulKeys e

-- all that is changed there lies in the leaf, and no more cells come than the two and a root
abbrev pub small_scope : Scope
small_scope = record {
  root = record { id = record { 0 = 22 }; height = 2 };
  in_leaves = true;
  in_extents = false;
  most = 3;
}

-- With the edits the leaf's units fit in one leaf.
abbrev pub HasRoomFor : Edits → CellSeen → Type 0
HasRoomFor e leaf = leaf_bytes (units_after None e (node_of leaf)) ≤ 4068
