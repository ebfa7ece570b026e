-- Pieces in parts, one for each twig (docs/volume.md, "Bodies in extents").
use Rattle.std.specs.Prelude.{◌≡◌, ◌≤◌, List, ◌++◌, length, All}
use Rattle.r4_work.specs.r4_branch.Pieces.{twig_bytes}
use Rattle.r4_work.specs.r4_branch.declared.piece.TwigPiece.{TwigPiece}
use Rattle.r4_rows.specs.Fewest.{EachFits, joined}

-- The parts have the pieces in their order; in each is one at least, and there is room for it in a
-- twig.
pub record AreParts (ps : List TwigPiece) (parts : List (List TwigPiece)) : Type 0 where
  pub are : joined parts ≡ ps
  pub some : All (λ (g : List TwigPiece). 1 ≤ length g) parts
  pub fit : EachFits twig_bytes 4068 parts

-- Where some parts have these pieces, the others have those too.
abbrev pub HavePiecesToo : (more : List TwigPiece) → (parts others : List (List TwigPiece)) → Type 0
HavePiecesToo more parts others =
    (ps : List TwigPiece) → AreParts ps parts → AreParts (ps ++ more) others
