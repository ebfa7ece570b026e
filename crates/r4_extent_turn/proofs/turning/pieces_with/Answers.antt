use Rattle.std.proofs.Common.{map, ◌≡◌, ap, sym, subst, ◌∙◌}
use Rattle.std.specs.Arc.{arc_value}
use Rattle.r4_base.specs.Key.{rank}
use Rattle.r4_extent_build.specs.r4_cell.Seen.{CellSeen}
use Rattle.r4_extent_build.proofs.r4_extent_edit.TurnEnds.{first_is}
use Rattle.r4_extent_build.specs.r4_graft.Splices.{IsBorder}
use Rattle.r4_build.specs.r4_path.TwigPieces.{twig_pieces}
use Rattle.r4_extent_turn.specs.TurningIn.{turn_of}
use Rattle.r4_extent_turn.proofs.GivenLeaves.{leaf_border, leaves_given, twig_given}
use Rattle.r4_extent_turn.proofs.turning.pieces_with.Goals as goal

pub pieces_put_over-requires-clause-border : goal.pieces_put_over-requires-clause-border
pieces_put_over-requires-clause-border c =
    let (b, is) = c.requires.turn in
    let x = turn_of c.args.turning.now in
    let items = c.args.turning.now.leaves.items in
    let given = leaves_given b (arc_value c.args.turning.now.twig) (map (λ d. arc_value d) items) is in
    let first : arc_value c.index.result.now ≡ x.leaf = first_is arc_value items c.index.result.now x.leaf x.more c.index.ensures given in
    let lo : rank c.lo-from.result ≡ rank x.leaf.lo = ap rank (c.lo-from.ensures ∙ ap (λ (d : CellSeen). d.lo) (c.deref.ensures ∙ first)) in
    let twig : c.deref-2.result.now ≡ x.twig = c.deref-2.ensures ∙ sym (twig_given (arc_value c.args.turning.now.twig) (map (λ d. arc_value d) items)) in
    subst (λ (d : CellSeen). IsBorder (rank c.lo-from.result) (twig_pieces d)) (sym twig) (subst (λ k. IsBorder k (twig_pieces x.twig)) (sym lo) (leaf_border b x is))
