-- The pieces of a twig's cell (docs/volume.md, "Twigs").
use Rattle.std.specs.Prelude.{◌≡◌, ◌≤◌, List}
use Rattle.std.specs.Prelude.{◌-◌}
use Rattle.r4_base.specs.Key.{rank}
use Rattle.r4_base.specs.Node.{items_of}
use Rattle.r4_base.specs.declared.key.Key.{Key}
use Rattle.r4_graft.specs.r4_branch.Pieces.{AreTwigPieces, names_of, pieces_in, twig_bytes, units_of}
use Rattle.r4_graft.specs.r4_branch.declared.piece.TwigPiece.{TwigPiece}
use Rattle.r4_patch.specs.r4_cell.Seen.{CellSeen, node_of}
use Rattle.r4_graft.specs.Splices.{place, spliced}

abbrev pub twig_pieces : CellSeen → List TwigPiece
twig_pieces twig = pieces_in (items_of twig.block)

-- They name what the twig names, and have its units.
pub record ArePiecesOf (twig : CellSeen) (ps : List TwigPiece) : Type 0 where
  pub is : ps ≡ twig_pieces twig
  pub pieces : AreTwigPieces (rank twig.lo) (rank twig.hi) ps
  pub names : names_of (rank twig.hi) ps ≡ (node_of twig).names
  pub units : units_of ps ≡ (node_of twig).units
  pub fits : twig_bytes ps ≤ 4068

-- other pieces where their key belongs
abbrev pub put_pieces : Key → List TwigPiece → List TwigPiece → List TwigPiece
put_pieces key qs ps = spliced (place (rank key) ps) (place (rank key) ps) qs ps
