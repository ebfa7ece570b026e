-- Twigs that are filled one after the other (docs/volume.md, "Twigs").
use Rattle.std.specs.Prelude.{◌≡◌, ℕ, List, take, drop, slice_get, Some}
use Rattle.r4_branch.specs.Filling.{IsFilled, IsFullFor}
use Rattle.r4_branch.specs.Pieces.{Follow}
use Rattle.r4_branch.specs.declared.piece.TwigPiece.{TwigPiece}

-- So many of the pieces are in the twig, and the others lie behind them.
pub record Fills (lo hi : ℕ) (ps : List TwigPiece) (n : ℕ) (b : List ℕ) : Type 0 where
  pub to : ℕ
  pub filled : IsFilled lo to (take n ps) b
  pub follow : Follow to hi (drop n ps)

-- As many of the pieces are in the twig as there is room for.
pub record FillsUp (lo hi : ℕ) (ps : List TwigPiece) (n : ℕ) (b : List ℕ) : Type 0 where
  pub fills : Fills lo hi ps n b
  pub full : (p : TwigPiece) → slice_get ps n ≡ Some p → IsFullFor p b
