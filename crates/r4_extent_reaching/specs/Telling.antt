-- What tells where a body stands, before the cells that were met are known to be a part of a tree (docs/volume.md,
-- "Reach"). A key is its rank.
use Rattle.std.specs.Prelude.{◌≡◌, ◌⊎◌, ℕ, Bool, false, Some}
use Rattle.r4_base.specs.Tree.{Holds}
use Rattle.r4_reaching.specs.r4_cell.Seen.{CellSeen, node_of}
use Rattle.r4_reaching.specs.r4_reach.Touched.{has_unit}
use Rattle.r4_reaching.specs.r4_search.Pool.{PoolState}
use Rattle.r4_reaching.specs.r4_touching.Touching.{IsInExtent, IsInLeaf}

-- The key is in the range of an extent, and a cell that was met holds it: whether that has a unit there.
pub record IsShownBeside (p : PoolState) (key : ℕ) (in_extents : Bool) : Type 0 where
  pub extent : IsInExtent p key
  pub cell : CellSeen
  pub met : p.met cell.id ≡ Some cell
  pub holds : Holds (node_of cell) key
  pub units : in_extents ≡ has_unit (node_of cell) key

abbrev pub IsKindTold : PoolState → (key : ℕ) → (in_extents : Bool) → Type 0
IsKindTold p key in_extents = (IsInLeaf p key × (in_extents ≡ false)) ⊎ IsShownBeside p key in_extents
