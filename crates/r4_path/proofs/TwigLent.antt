-- The pieces of a twig's cell.
use Rattle.std.proofs.Common.{◌≡◌, ℕ, ◌^◌, ◌≤◌, true, List, length, sym, ap, subst, ◌∙◌}
use Rattle.std.specs.Prelude.{None}
use Rattle.r4_base.specs.Cell.{cell_fault, names_in, units_in}
use Rattle.r4_base.specs.Key.{rank}
use Rattle.r4_base.specs.Node.{Item, items_of}
use Rattle.r4_graft.specs.r4_branch.Pieces.{AreTwigPieces, MayStand, names_of, pieces_in, twig_bytes, units_of}
use Rattle.r4_graft.specs.r4_branch.declared.piece.TwigPiece.{TwigPiece}
use Rattle.r4_patch.specs.r4_cell.Seen.{CellSeen}
use Rattle.r4_path.specs.TwigPieces.{ArePiecesOf}
use Rattle.r4_path.proofs.CellNodes.{names_are, units_are}

module _ (twig : CellSeen) (level : twig.level ≡ 2) where
  pub twig_stands : (b : List ℕ) → b ≡ twig.block → length twig.block ≡ 4096 → cell_fault true (2 ^ 64) twig.level (rank twig.lo) (rank twig.hi) twig.block ≡ None → MayStand (rank twig.lo) (rank twig.hi) b
  twig_stands b same whole accepted =
      subst (MayStand (rank twig.lo) (rank twig.hi)) (sym same)
      (whole, subst (λ l. cell_fault true (2 ^ 64) l (rank twig.lo) (rank twig.hi) twig.block ≡ None) level accepted)

  pub lent_pieces : (items : List Item) (ps : List TwigPiece) → items ≡ items_of twig.block → ps ≡ pieces_in items → AreTwigPieces (rank twig.lo) (rank twig.hi) ps
      → names_of (rank twig.hi) ps ≡ names_in 2 (rank twig.hi) items → units_of ps ≡ units_in items → twig_bytes ps ≤ 4068 → ArePiecesOf twig ps
  lent_pieces items ps same is pieces names units fits = record {
    is = is ∙ ap pieces_in same;
    pieces = pieces;
    names = names ∙ (ap (names_in 2 (rank twig.hi)) same ∙ sym (names_are twig 1 level));
    units = units ∙ (ap units_in same ∙ sym (units_are twig 1 level));
    fits = fits;
  }
