-- Twigs beside each other that get other pieces (docs/volume.md, "Edits").
use Rattle.std.specs.Prelude.{◌≡◌, ℕ, ◌+◌, ◌<◌, ◌≤◌, List, ◌++◌, length, take, Contains}
use Rattle.r4_base.specs.Node.{mkfs_id_of}
use Rattle.r4_branch.specs.Pieces.{AreTwigPieces, twig_bytes}
use Rattle.r4_branch.specs.declared.piece.TwigPiece.{TwigPiece}
use Rattle.r4_cell.specs.Seen.{CellSeen}
use Rattle.r4_cell.specs.declared.change.Fresh.{Fresh}
use Rattle.r4_patch.specs.Joining.{ids_of}
use Rattle.r4_path.specs.Steps.{CountUp, Follow}
use Rattle.r4_rows.specs.Fewest.{EachFits, joined}
use Rattle.r4_rows.specs.Pieces.{AreTwigsOfPieces}
use Rattle.r4_squeeze.specs.Packing.{first_mkfs_id}

-- Twigs beside each other, one at least, and pieces of their range. These may be shared out in some way among the twigs
-- and so many more.
pub record MayGet (row : List CellSeen) (ps : List TwigPiece) (more : ℕ) : Type 0 where
  pub from : ℕ
  pub to : ℕ
  pub some : from < to
  pub along : Follow 2 from to row
  pub pieces : AreTwigPieces from to ps
  pub each : List (List TwigPiece)
  pub are : ps ≡ joined each
  pub fit : EachFits twig_bytes 4068 each
  pub one : 1 ≤ length each
  pub few : length each ≤ length row + more

-- The twigs are too few for the pieces, however these are shared out.
abbrev pub AreTooFew : (row : List CellSeen) → (ps : List TwigPiece) → Type 0
AreTooFew row ps = MayGet row ps 0 → ⊥

-- Twigs with the pieces share out the range: as few as hold them, with the row's numbers from the left on, and then fresh
-- ones.
pub record AreTwigsWith (row : List CellSeen) (ps : List TwigPiece) (before after : Fresh) (cells : List CellSeen)
    : Type 0 where
  pub from : ℕ
  pub to : ℕ
  pub along : Follow 2 from to row
  pub twigs : AreTwigsOfPieces from to (ids_of cells) ps cells
  pub grows : (more : ℕ) → MayGet row ps more → length cells ≤ length row + more
  pub taken : List ℕ
  pub ids : ids_of cells ≡ take (length cells) (ids_of row) ++ taken
  pub count : CountUp before.next taken
  pub left : after ≡ record before { next = before.next + length taken }
  pub mkfs_id : (c : CellSeen) → Contains cells c → mkfs_id_of c.block ≡ first_mkfs_id row
