-- Leaves and twigs in the place of a slum of such (docs/volume.md, "Edits").
use Rattle.std.specs.Prelude.{◌≡◌, ◌↔◌, ℕ, ◌+◌, ◌<◌, ◌≤◌, List, [], ◌∷◌, Contains, length, take}
use Rattle.r4_base.specs.Tree.{Name}
use Rattle.r4_branch.specs.Pieces.{names_of, twig_bytes, units_of}
use Rattle.r4_branch.specs.declared.piece.TwigPiece.{TwigPiece}
use Rattle.r4_cell.specs.Seen.{CellSeen, node_of}
use Rattle.r4_leaf.specs.Leaves.{IsFull}
use Rattle.r4_leaf.specs.Units.{LeafUnit, leaf_bytes}
use Rattle.r4_node40.specs.Laid.{room_of}
use Rattle.r4_patch.specs.Joining.{ids_of}
use Rattle.r4_path.specs.Levels.{units_of_cells}
use Rattle.r4_path.specs.Sharing.{IsSound}
use Rattle.r4_path.specs.Steps.{AreNaming, Follow}
use Rattle.r4_path.specs.TwigPieces.{ArePiecesOf}
use Rattle.r4_rows.specs.Fewest.{EachFits, joined}

-- the cells with these numbers, as many as there are
abbrev pub renumbered : List ℕ → List CellSeen → List CellSeen
renumbered [] cells = []
renumbered (i ∷ ids) [] = []
renumbered (i ∷ ids) (c ∷ cells) = record c { id = i } ∷ renumbered ids cells

-- the units of each of the cells
abbrev pub units_each : List CellSeen → List (List LeafUnit)
units_each [] = []
units_each (c ∷ cells) = (node_of c).units ∷ units_each cells

-- The left leaf has no room for the first unit of the right one.
pub record IsFullLeaf (left right : CellSeen) : Type 0 where
  pub next : LeafUnit
  pub rest : List LeafUnit
  pub units : (node_of right).units ≡ next ∷ rest
  pub full : IsFull (node_of left).units next

-- each but the last has no room for the first unit of the next one
abbrev pub AreFullLeaves : List CellSeen → Type 0
AreFullLeaves [] = Unit {0}
AreFullLeaves (c ∷ []) = Unit {0}
AreFullLeaves (c ∷ (d ∷ cells)) = IsFullLeaf c d × AreFullLeaves (d ∷ cells)

-- The leaf's items take up no more than its units need: no two tails of one file in it meet.
abbrev pub IsDense : CellSeen → Type 0
IsDense c = room_of c.block + leaf_bytes (node_of c).units ≡ 4068

-- Leaves in the place of those of a slum: no more of them, with the leftmost numbers and the units
-- in their order, each dense, and full before the next one.
pub record ArePackedLeft (slum : List CellSeen) (from to : ℕ) (cells : List CellSeen) : Type 0 where
  pub few : length cells ≤ length slum
  pub ids : ids_of cells ≡ take (length cells) (ids_of slum)
  pub follow : Follow 1 from to cells
  pub units : units_of_cells cells ≡ units_of_cells slum
  pub sound : (c : CellSeen) → Contains cells c → IsSound c
  pub dense : (c : CellSeen) → Contains cells c → IsDense c
  pub full : AreFullLeaves cells

-- These are the pieces of the twigs, twig by twig.
abbrev pub AreTheirPieces : List CellSeen → List (List TwigPiece) → Type 0
AreTheirPieces [] [] = Unit {0}
AreTheirPieces [] (ps ∷ each) = ⊥
AreTheirPieces (c ∷ slum) [] = ⊥
AreTheirPieces (c ∷ slum) (ps ∷ each) = ArePiecesOf c ps × AreTheirPieces slum each

-- The pieces of a slum of twigs, twig by twig: each twig's have room in one, and all together name
-- what the slum names and have its units.
pub record AreSlumPieces (slum : List CellSeen) (from to : ℕ) (ps : List TwigPiece)
    (each : List (List TwigPiece)) : Type 0 where
  pub follow : Follow 2 from to slum
  pub some : from < to
  pub all : ps ≡ joined each
  pub fit : EachFits twig_bytes 4068 each
  pub many : length each ≡ length slum
  pub names : (n : Name) → AreNaming slum n ↔ Contains (names_of to ps) n
  pub units : units_of_cells slum ≡ units_of ps

-- Twigs in the place of those of a slum: no more of them, with the leftmost numbers, and the names
-- and units as before.
pub record AreTwigsLeft (slum : List CellSeen) (from to : ℕ) (cells : List CellSeen) : Type 0 where
  pub few : length cells ≤ length slum
  pub ids : ids_of cells ≡ take (length cells) (ids_of slum)
  pub follow : Follow 2 from to cells
  pub units : units_of_cells cells ≡ units_of_cells slum
  pub names : (n : Name) → AreNaming cells n ↔ AreNaming slum n
  pub sound : (c : CellSeen) → Contains cells c → IsSound c
