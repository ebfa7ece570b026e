-- A slum, cells of one level beside each other below one cell, and cells in its place
-- (docs/volume.md, "Edits").
use Rattle.std.specs.Prelude.{◌≡◌, ◌↔◌, ◌⊎◌, ℕ, suc, ◌<◌, ◌≤◌, List, [], ◌∷◌, ◌++◌, Contains}
use Rattle.std.specs.Prelude.{length}
use Rattle.std.specs.Prelude.{take, None, Some}
use Rattle.r4_base.specs.Key.{rank}
use Rattle.r4_base.specs.Tree.{IsNode, Name, Root, Store}
use Rattle.r4_base.specs.Value.{Value}
use Rattle.r4_cell.specs.Patch.{Patch, patch_of}
use Rattle.r4_cell.specs.Seen.{CellSeen, node_of}
use Rattle.r4_patch.specs.Joining.{ids_of}
use Rattle.r4_patch.specs.Part.{IsPart}
use Rattle.r4_path.specs.Levels.{units_of_cells}
use Rattle.r4_path.specs.Steps.{AreNaming, Follow, IsNameOf, name_of}
use Rattle.r4_rows.specs.Rows.{AreThere, IsRow, Row}

-- The cells stand in this part of a tree, each the right neighbour of the one before, and the
-- parent names them.
pub record IsSlum (t : Store Value) (r : Root) (slum : List CellSeen)
    (parent : CellSeen) : Type 0 where
  pub part : IsPart t r
  pub level : ℕ
  pub from : ℕ
  pub to : ℕ
  pub branch : 1 ≤ level
  pub follow : Follow level from to slum
  pub some : from < to
  pub there : AreThere t slum
  pub above : t parent.id ≡ Some (node_of parent)
  pub named : (c : CellSeen) → Contains slum c → Contains (node_of parent).names (name_of c)

-- these cells in the place of those
abbrev pub row_for : (old new : List CellSeen) → Row
row_for old new = record { old = old; new = new }

-- The new cells have the units and the names of the old ones in their order, and the leftmost of
-- their numbers. The parent names them in the place of the old ones.
pub record IsSqueezed (slum : List CellSeen) (parent : CellSeen) (cells : List CellSeen)
    (over : CellSeen) : Type 0 where
  pub ids : ids_of cells ≡ take (length cells) (ids_of slum)
  pub ranges : (level from to : ℕ) → Follow level from to slum → Follow level from to cells
  pub units : units_of_cells cells ≡ units_of_cells slum
  pub names : (n : Name) → AreNaming cells n ↔ AreNaming slum n
  pub nodes : (c : CellSeen) → Contains (cells ++ over ∷ []) c → IsNode (node_of c)
  pub id : over.id ≡ parent.id
  pub level : over.level ≡ parent.level
  pub lo : rank over.lo ≡ rank parent.lo
  pub hi : rank over.hi ≡ rank parent.hi
  pub pointers : (n : Name) → Contains (node_of over).names n
      ↔ ((Contains (node_of parent).names n × (IsNameOf slum n → ⊥)) ⊎ IsNameOf cells n)
  pub own : (node_of over).units ≡ (node_of parent).units

-- The cells share out the slum's range, with the leftmost of its numbers, its units in their order
-- and its names. The cell above them is a row over them, and has its own units.
pub record IsPackedSlum (t : Store Value) (slum : List CellSeen) (parent : CellSeen)
    (cells : List CellSeen) (over : CellSeen) : Type 0 where
  pub level : ℕ
  pub from : ℕ
  pub to : ℕ
  pub some : from < to
  pub were : Follow level from to slum
  pub are : Follow level from to cells
  pub ids : ids_of cells ≡ take (length cells) (ids_of slum)
  pub units : units_of_cells cells ≡ units_of_cells slum
  pub names : (n : Name) → AreNaming cells n ↔ AreNaming slum n
  pub nodes : (c : CellSeen) → Contains (cells ++ over ∷ []) c → IsNode (node_of c)
  pub id : over.id ≡ parent.id
  pub row : IsRow t (suc level) (row_for slum cells) (row_for (parent ∷ []) (over ∷ []))
  pub own : units_of_cells (over ∷ []) ≡ units_of_cells (parent ∷ [])

-- the slum and the cell above it, and what comes in their place
abbrev pub slum_patch : (slum : List CellSeen) (parent : CellSeen) (cells : List CellSeen)
    (over : CellSeen) → Patch Value
slum_patch slum parent cells over = patch_of (slum ++ parent ∷ []) (cells ++ over ∷ []) None
