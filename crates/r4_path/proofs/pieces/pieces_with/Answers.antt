use Rattle.std.proofs.Common.{ap, subst, ◌∙◌}
use Rattle.r4_path.specs.TwigPieces.{ArePiecesOf, put_pieces}
use Rattle.r4_path.proofs.pieces.pieces_with.Goals as goal

pub returns-clause-are : goal.returns-clause-are
returns-clause-are c = subst (ArePiecesOf c.args.twig.now) c.in_ok-pieces.ensures.is c.in_ok-pieces.ensures

pub returns-clause-with : goal.returns-clause-with
returns-clause-with c = c.in_ok-all.ensures ∙ ap (put_pieces c.args.key.now c.args.more.now) (c.as_slice.ensures.value ∙ c.in_ok-pieces.ensures.is)
