-- Parts, one more at a time.
use Rattle.std.proofs.Common.{◌≤◌, List, [], ◌∷◌, ◌++◌, length, refl, ap, ◌∙◌}
use Rattle.std.proofs.lemmas.List.Elements.{All-append, All-cons, All-nil}
use Rattle.r4_work.specs.r4_branch.Pieces.{twig_bytes}
use Rattle.r4_work.specs.r4_branch.declared.piece.TwigPiece.{TwigPiece}
use Rattle.r4_rows.specs.Fewest.{EachFits}
use Rattle.r4_squeeze.proofs.Cells.{joined_more}
use Rattle.r4_row_gather.specs.Parting.{AreParts, HavePiecesToo}

pub no_parts : AreParts [] []
no_parts = record { are = refl; some = All-nil (λ (g : List TwigPiece). 1 ≤ length g); fit = tt }

fits_more : (parts : List (List TwigPiece)) (g : List TwigPiece) → EachFits twig_bytes 4068 parts → twig_bytes g ≤ 4068
    → EachFits twig_bytes 4068 (parts ++ g ∷ [])
fits_more [] g fit less = (less, tt)
fits_more (p ∷ parts) g fit less = (fit.0, fits_more parts g fit.1 less)

pub one_more_part : (parts : List (List TwigPiece)) (g : List TwigPiece) → 1 ≤ length g → twig_bytes g ≤ 4068
    → HavePiecesToo g parts (parts ++ g ∷ [])
one_more_part parts g some less ps a = record {
  are = joined_more parts g ∙ ap (λ xs. xs ++ g) a.are;
  some = All-append (λ (x : List TwigPiece). 1 ≤ length x) parts (g ∷ []) a.some
      (All-cons (λ (x : List TwigPiece). 1 ≤ length x) g [] some (All-nil (λ (x : List TwigPiece). 1 ≤ length x)));
  fit = fits_more parts g a.fit less;
}
