use Rattle.r4_rows.proofs.SlumPieces.{slum_pieces, twig_pieces}
use Rattle.r4_rows.proofs.laws.twigs_are_their_pieces.Goals as goal

pub returns : goal.returns
returns c = record { slum = slum_pieces; pieces = twig_pieces }
