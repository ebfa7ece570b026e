-- What becomes of a slum that is packed to the left (docs/volume.md, "Squeezing").
use Rattle.std.specs.Prelude.{◌≡◌, ◌≢◌, ℕ, ◌<◌, ◌≤◌, List, [], ◌∷◌, ◌++◌, length, Contains, None}
use Rattle.r4_base.specs.Key.{rank}
use Rattle.r4_base.specs.Node.{mkfs_id_of}
use Rattle.r4_base.specs.Tree.{Root, Store}
use Rattle.r4_base.specs.Value.{Value}
use Rattle.r4_base.specs.declared.key.Key.{Key}
use Rattle.r4_cell.specs.Seen.{CellSeen}
use Rattle.r4_cell.specs.declared.change.Change.{Change}
use Rattle.r4_patch.specs.Joining.{ids_of}
use Rattle.r4_path.specs.Sharing.{IsSound, items_of_cells}
use Rattle.r4_path.specs.Steps.{Follow}
use Rattle.r4_rows.specs.Packed.{ArePackedLeft}
use Rattle.r4_rows.specs.Slum.{IsSlum, IsSqueezed}
use Rattle.r4_squeeze.specs.Over.{AreBeside, IsOver}
use Rattle.r4_squeeze.specs.Packing.{PacksLeaves, PacksNodes, PacksSlumTwigs, cells_filled, first_mkfs_id}
use Rattle.r4_squeeze.specs.declared.filled.Filled.{Filled}

-- What they have stands in nodes that are filled from the left.
pub record AreFilled (level from to : ℕ) (slum : List CellSeen) (filled : List Filled) : Type 0
  where
    pub leaves : level ≡ 1 → PacksLeaves from to slum filled
    pub twigs : level ≡ 2 → PacksSlumTwigs from to slum filled
    pub nodes : 3 ≤ level → PacksNodes level (first_mkfs_id slum) (items_of_cells slum) filled

-- each of the cells may stand, but for twigs
abbrev pub AreSoundButTwigs : List CellSeen → Type 0
AreSoundButTwigs cells = (c : CellSeen) → Contains cells c → c.level ≢ 2 → IsSound c

-- The cells are such nodes, with the leftmost of the slum's numbers.
pub record ArePacked (slum cells : List CellSeen) : Type 0 where
  pub level : ℕ
  pub from : ℕ
  pub hi : Key
  pub beside : AreBeside level from (rank hi) slum
  pub filled : List Filled
  pub fill : AreFilled level from (rank hi) slum filled
  pub few : length filled ≤ length slum
  pub are : cells ≡ cells_filled level (ids_of slum) hi filled

-- The slum and the cell above it go. In the slum's place come cells that are packed to the left, no more than before and
-- of the first one's mkfs_id, and above them a cell that names these, of the mkfs_id of the one above the slum.
pub record Squeezes (slum : List CellSeen) (parent : CellSeen) (c : Change) : Type 0 where
  pub cells : List CellSeen
  pub over : CellSeen
  pub old : c.old ≡ slum ++ parent ∷ []
  pub new : c.new ≡ cells ++ over ∷ []
  pub root : c.root ≡ None
  pub squeezed : (t : Store Value) (r : Root) → IsSlum t r slum parent → IsSqueezed slum parent cells over
  pub few : length cells ≤ length slum
  pub packed : ArePacked slum cells
  pub dense : (from to : ℕ) → Follow 1 from to slum → from < to → ArePackedLeft slum from to cells
  pub mkfs_ids : (x : CellSeen) → Contains cells x → mkfs_id_of x.block ≡ first_mkfs_id slum
  pub above : IsOver parent slum cells over
