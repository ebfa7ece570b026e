use Rattle.std.proofs.Common.{◌++◌, ◌≤◌, List, ap, sym, subst, ◌∙◌, arith}
use Rattle.std.proofs.lemmas.List.{take_all}
use Rattle.r4_node40.specs.View.{item_shown, view_block, view_items}
use Rattle.r4_branch.specs.Pieces.{AreTwigPieces, item_pieces, names_of, pieces_in, twig_bytes, units_of}
use Rattle.r4_branch.specs.declared.piece.TwigPiece.{TwigPiece}
use Rattle.r4_branch.proofs.ItemPieces.{bytes_of_twig, names_of_twig, pieces_more, pieces_of_twig, units_of_twig}
use Rattle.r4_branch.proofs.Lying.{lie_sound}
use Rattle.r4_branch.proofs.Standing.{stand_lie}
use Rattle.r4_branch.proofs.reading.pieces_of.Goals as goal

pub add_item-requires : goal.add_item-requires
add_item-requires c = lie_sound c.requires.0 c.requires.1 (view_items c.args.twig.now) c.loop-i.i (item_shown c.item-item.result) (stand_lie c.requires.0 c.requires.1 (view_block c.args.twig.now).now c.requires.2) c.item-item.ensures.shown

pub loop-i-preserved : goal.loop-i-preserved
loop-i-preserved c =
    c.in_ok-add_item.ensures
    ∙ (ap (λ ps. ps ++ item_pieces (item_shown c.item-item.result)) c.loop-i.invariant ∙ sym (pieces_more c.loop-i.i (view_items c.args.twig.now) (item_shown c.item-item.result) c.item-item.ensures.shown))

pub returns-clause-items : goal.returns-clause-items
returns-clause-items c =
    let past = c.loop-i-test.false in let count = c.len-i-end.ensures in
    c.loop-i.invariant ∙ ap pieces_in (take_all c.loop-i.i (view_items c.args.twig.now) (omega (arith, past, count)))

pub returns-clause-pieces : goal.returns-clause-pieces
returns-clause-pieces c = λ lo hi stand. subst (λ (ps : List TwigPiece). AreTwigPieces lo hi ps) (sym (returns-clause-items c)) (pieces_of_twig lo hi (view_block c.args.twig.now).now stand)

pub returns-clause-names : goal.returns-clause-names
returns-clause-names c = λ hi. ap (names_of hi) (returns-clause-items c) ∙ names_of_twig c.requires.0 c.requires.1 (view_block c.args.twig.now).now c.requires.2 hi

pub returns-clause-units : goal.returns-clause-units
returns-clause-units c = ap units_of (returns-clause-items c) ∙ units_of_twig c.requires.0 c.requires.1 (view_block c.args.twig.now).now c.requires.2

pub returns-clause-fits : goal.returns-clause-fits
returns-clause-fits c = subst (λ (ps : List TwigPiece). twig_bytes ps ≤ 4068) (sym (returns-clause-items c)) (bytes_of_twig c.requires.0 c.requires.1 (view_block c.args.twig.now).now c.requires.2)
