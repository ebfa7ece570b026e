-- What stands for no piece.
use Rattle.std.specs.Prelude.{[]}
use Rattle.r4_graft.specs.r4_branch.declared.piece.TwigPart.TheVariants.{Pointer}
use Rattle.r4_graft.specs.r4_branch.declared.piece.TwigPiece.{TwigPiece}

abbrev pub nothing : TwigPiece
nothing = record { key = record { el = [] }; part = Pointer (record { 0 = 0 }) }
