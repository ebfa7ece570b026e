use Rattle.r4_base.specs.Key.{rank}
use Rattle.r4_path.proofs.TwigLent.{lent_pieces, twig_stands}
use Rattle.r4_path.proofs.pieces.pieces_of_cell.Goals as goal

pub pieces_of-requires : goal.pieces_of-requires
pieces_of-requires c =
    let s = twig_stands c.args.twig.now c.requires _ c.node.ensures.block c.node.ensures.whole c.node.ensures.stands in
    (rank c.args.twig.now.lo, rank c.args.twig.now.hi, (s.0, s.1))

pub returns : goal.returns
returns c =
    let e = c.in_ok-pieces.ensures in
    lent_pieces c.args.twig.now c.requires _ c.in_ok-pieces.pieces.items c.node.ensures.items e.items
    (e.pieces (rank c.args.twig.now.lo) (rank c.args.twig.now.hi) (twig_stands c.args.twig.now c.requires _ c.node.ensures.block c.node.ensures.whole c.node.ensures.stands))
    (e.names (rank c.args.twig.now.hi)) e.units e.fits
