-- How the leaves of values are made that come among extents (docs/volume.md, "Bodies in extents").
use Rattle.std.specs.Prelude.{◌≡◌, ℕ, ◌+◌, ◌<◌, ◌≤◌, List, [], ◌∷◌, Contains, length}
use Rattle.r4_base.specs.Key.{least, rank, top}
use Rattle.r4_base.specs.Node.{mkfs_id_of}
use Rattle.r4_extent_build.specs.r4_cell.Seen.{CellSeen, node_of}
use Rattle.r4_build.specs.r4_leaf.Units.{LeafUnit, leaf_bytes}
use Rattle.r4_build.specs.r4_leaf.declared.remaking.KeyRange.{KeyRange}
use Rattle.r4_build.specs.r4_patch.Joining.{ids_of}
use Rattle.r4_build.specs.r4_path.Levels.{units_of_cells}
use Rattle.r4_build.specs.r4_path.Sharing.{IsSound}
use Rattle.r4_build.specs.r4_path.Steps.{CountUp, Follow}
use Rattle.r4_build.specs.r4_reach.Needs.{over}

-- a range that a leaf may have
pub record IsLeafRange (r : KeyRange) : Type 0 where
  pub low : least ≤ rank r.from
  pub some : rank r.from < rank r.to
  pub high : rank r.to ≤ top

-- The leaves have these units in their order, and share out this range; their numbers count up from
-- this one on. They are no more than are counted for so many bytes, and have this mkfs_id; behind
-- the first one there are others only where it has a unit.
pub record ArePackedFrom (us : List LeafUnit) (lo hi mkfs_id next : ℕ) (cells : List CellSeen)
    : Type 0 where
  pub ranges : Follow 1 lo hi cells
  pub units : units_of_cells cells ≡ us
  pub sound : (c : CellSeen) → Contains cells c → IsSound c
  pub few : length cells ≤ 1 + over (leaf_bytes us)
  pub mkfs_id_is : (c : CellSeen) → Contains cells c → mkfs_id_of c.block ≡ mkfs_id
  pub numbers : CountUp next (ids_of cells)
  pub first : (c : CellSeen) (more : List CellSeen) → cells ≡ c ∷ more
      → (node_of c).units ≡ [] → more ≡ []
