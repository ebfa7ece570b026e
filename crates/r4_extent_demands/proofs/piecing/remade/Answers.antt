use Rattle.std.proofs.Common.{◌≤◌, List, ap, subst, sym, ◌∙◌}
use Rattle.std.specs.List.{flat_map}
use Rattle.std.specs.Prelude.{All}
use Rattle.r4_base.specs.Key.{rank}
use Rattle.r4_graft.specs.r4_branch.Pieces.{twig_bytes}
use Rattle.r4_graft.specs.r4_branch.declared.piece.TwigPiece.{TwigPiece}
use Rattle.r4_bodies.specs.r4_cell.Seen.{node_of}
use Rattle.r4_content.specs.Held.{edits_of}
use Rattle.r4_bodies.specs.r4_leaf_edits.r4_reach.Needs.{filled, with_coming}
use Rattle.r4_extent_demands.specs.Pieces.{HasRoom}
use Rattle.r4_extent_demands.proofs.Bounded.{remade_few}
use Rattle.r4_extent_demands.proofs.piecing.remade.Goals as goal

pub returns-clause-few : goal.returns-clause-few
returns-clause-few c = λ suit.
    let b = c.args.body.now in
    let e = edits_of c.args.edits.now in
    let n = node_of c.args.twig.now in
    let is = c.in_ok-pieces.ensures ∙ ap (with_coming b e n) (c.as_slice-2.ensures.value ∙ c.in_ok-filled.ensures
    ∙ ap (flat_map (filled b e)) (c.as_slice.ensures.value ∙ c.in_ok-cut.ensures.items)) in
    let has = subst (λ (ps : List TwigPiece). All HasRoom ps) c.in_ok-cut.ensures.items c.in_ok-cut.ensures.room in
    subst (λ (ps : List TwigPiece). twig_bytes ps ≤ 12800000) (sym is)
    (remade_few b c.first_byte.result c.first_byte.ensures c.requires.sized e suit n (rank c.args.twig.now.lo)
    c.args.left.now c.requires.short c.requires.order c.requires.room has)
