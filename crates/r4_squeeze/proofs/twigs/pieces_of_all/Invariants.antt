use Rattle.std.proofs.Common.{◌≡◌, List, map, take}
use Rattle.std.specs.Arc.{arc_value}
use Rattle.r4_branch.specs.declared.piece.TwigPiece.{TwigPiece}
use Rattle.r4_rows.specs.Fewest.{joined}
use Rattle.r4_rows.specs.Packed.{AreTheirPieces}
use Rattle.r4_squeeze.proofs.twigs.pieces_of_all.Given as goal

abbrev pub invariant-loop-cell : goal.invariant-loop-cell
invariant-loop-cell l = (each : List (List TwigPiece))
    × AreTheirPieces (map (λ c. arc_value c) (take l.cell-index l.slum)) each
    × (l.pieces.items ≡ joined each)
