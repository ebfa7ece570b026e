-- A row of twigs by the pieces of its twigs (docs/volume.md, "Edits").
use Rattle.std.specs.Prelude.{◌≡◌, ◌↔◌, ℕ, ◌<◌, List, [], ◌++◌, Contains}
use Rattle.r4_base.specs.Tree.{Name}
use Rattle.r4_branch.specs.Pieces.{names_of, next_of, units_of}
use Rattle.r4_branch.specs.declared.piece.TwigPart.TheVariants.{Pointer}
use Rattle.r4_branch.specs.declared.piece.TwigPiece.{TwigPiece}
use Rattle.r4_cell.specs.Seen.{CellSeen}
use Rattle.r4_patch.specs.Joining.{ids_of}
use Rattle.r4_path.specs.Levels.{units_of_cells}
use Rattle.r4_path.specs.Sharing.{IsSound}
use Rattle.r4_path.specs.Steps.{AreNaming, Follow, IsNameOf}
use Rattle.r4_rows.specs.Fewest.{joined}
use Rattle.r4_rows.specs.Packed.{AreTheirPieces}
use Rattle.r4_rows.specs.Rows.{Row}

-- Twigs beside each other that name what the pieces name, and have their units.
pub record HavePieces (from to : ℕ) (ps : List TwigPiece) (cells : List CellSeen) : Type 0 where
  pub follow : Follow 2 from to cells
  pub names : (n : Name) → AreNaming cells n ↔ Contains (names_of to ps) n
  pub units : units_of_cells cells ≡ units_of ps

-- Such twigs that may stand in memory, with these numbers.
pub record AreTwigsOfPieces (from to : ℕ) (ids : List ℕ) (ps : List TwigPiece)
    (cells : List CellSeen) : Type 0 where
  pub has : HavePieces from to ps cells
  pub numbers : ids_of cells ≡ ids
  pub sound : (c : CellSeen) → Contains cells c → IsSound c

-- the piece that points to a cell
abbrev pub pointer_to : CellSeen → TwigPiece
pointer_to c = record { key = c.lo; part = Pointer (record { 0 = c.id }) }

-- Pieces that name just these cells, beside each other from one key up to another, and have no
-- units.
pub record ArePointersTo (from to : ℕ) (cells : List CellSeen) (ps : List TwigPiece) : Type 0 where
  pub begin : next_of to ps ≡ from
  pub names : (n : Name) → Contains (names_of to ps) n ↔ IsNameOf cells n
  pub units : units_of ps ≡ []

-- Among the pieces of the old twigs, one twig's after the other's, stand those that name the old
-- cells below. In their place, from the same key on, the new twigs have pieces that name the new
-- ones.
pub record PiecesBelow (b s : Row) : Type 0 where
  pub from : ℕ
  pub to : ℕ
  pub some : from < to
  pub were : Follow 2 from to s.old
  pub each : List (List TwigPiece)
  pub pieces : AreTheirPieces s.old each
  pub before : List TwigPiece
  pub gone : List TwigPiece
  pub come : List TwigPiece
  pub behind : List TwigPiece
  pub had : joined each ≡ before ++ (gone ++ behind)
  pub have : HavePieces from to (before ++ (come ++ behind)) s.new
  pub begin : next_of (next_of to behind) come ≡ next_of (next_of to behind) gone
  pub names_old : (n : Name) → Contains (names_of (next_of to behind) gone) n ↔ IsNameOf b.old n
  pub names_new : (n : Name) → Contains (names_of (next_of to behind) come) n ↔ IsNameOf b.new n
