use Rattle.r4_rows.proofs.TwigPieces.{packed_pieces, pieces_keep, pieces_point, pieces_row, pieces_units}
use Rattle.r4_rows.proofs.laws.pieces_make_rows.Goals as goal

pub returns : goal.returns
returns c = record {
  packed = packed_pieces;
  row = λ t b s is there. pieces_row b s is t there;
  keep = λ b s is e. pieces_keep b s is e;
  points = pieces_point;
  units = λ b s is e w. pieces_units b s is e w;
}
