use Rattle.std.proofs.Common.{◌*◌, ◌≤◌, List, ap, length, map, subst, sym, ◌∙◌}
use Rattle.std.specs.List.{list_any}
use Rattle.std.specs.Option.{option_copied}
use Rattle.std.specs.Prelude.{All, not, ◌&&◌}
use Rattle.std.proofs.lemmas.List.Elements.{All-filter}
use Rattle.r4_base.specs.Key.{rank}
use Rattle.r4_base.specs.Node.{items_of}
use Rattle.r4_graft.specs.r4_branch.Pieces.{pieces_in, twig_bytes}
use Rattle.r4_graft.specs.r4_branch.declared.piece.TwigPiece.{TwigPiece}
use Rattle.r4_bodies.specs.r4_cell.Seen.{node_of}
use Rattle.r4_content.specs.Held.{edits_of}
use Rattle.r4_bodies.proofs.r4_leaf_demands.Weighed.{block_is}
use Rattle.r4_bodies.specs.r4_marking.Marks.{heard_seen}
use Rattle.r4_bodies.specs.r4_leaf_edits.r4_reach.Needs.{pieces_after, points_to, without_gone}
use Rattle.r4_extent_demands.specs.Pieces.{AreInOrder, HasRoom, remade}
use Rattle.r4_extent_demands.proofs.Bounded.{follow_lies, lies_filter, without_bytes}
use Rattle.r4_extent_demands.proofs.Rooms.{follow_room}
use Rattle.r4_extent_demands.proofs.piecing.pieces_after.Goals as goal

pub returns-in-None-clause-pieces : goal.returns-in-None-clause-pieces
returns-in-None-clause-pieces c =
    let e = edits_of c.args.edits.now in
    let n = node_of c.args.twig.now in
    let hs = map heard_seen c.args.heard.now in
    c.in_ok-left.ensures ∙ ap (without_gone hs) (c.as_slice-pieces.ensures.value ∙ c.in_ok-all.ensures.is
    ∙ ap (λ bytes. pieces_in (items_of bytes)) (sym (block_is c.args.twig.now)))
    ∙ sym (ap (λ o. pieces_after (option_copied o) e n hs) c.in-None.is)

pub returns-in-None-clause-few : goal.returns-in-None-clause-few
returns-in-None-clause-few c = λ suit.
    let hs = map heard_seen c.args.heard.now in
    let all = c.in_ok-all.all.items in
    let is = c.in_ok-left.ensures ∙ ap (without_gone hs) c.as_slice-pieces.ensures.value in
    subst (λ (ps : List TwigPiece). twig_bytes ps ≤ 12800000) (sym is)
    (without_bytes (λ p. not (list_any (λ h. h.1.gone && points_to h.0.id p.part) hs)) all c.in_ok-all.ensures.fits).1

pub remade-requires-clause-room : goal.remade-requires-clause-room
remade-requires-clause-room c =
    let x = c.args.twig.now in
    let hs = map heard_seen c.args.heard.now in
    let all = c.in_ok-all.all.items in
    let is = c.as_slice-rest.ensures.value ∙ c.in_ok-left.ensures ∙ ap (without_gone hs) c.as_slice-pieces.ensures.value in
    subst (λ (ps : List TwigPiece). All HasRoom ps) (sym is)
    (All-filter (λ p. not (list_any (λ h. h.1.gone && points_to h.0.id p.part) hs)) HasRoom all
    (follow_room (rank x.lo) (rank x.hi) all c.in_ok-all.ensures.pieces.follow))

pub remade-requires-clause-order : goal.remade-requires-clause-order
remade-requires-clause-order c =
    let x = c.args.twig.now in
    let hs = map heard_seen c.args.heard.now in
    let all = c.in_ok-all.all.items in
    let is = c.as_slice-rest.ensures.value ∙ c.in_ok-left.ensures ∙ ap (without_gone hs) c.as_slice-pieces.ensures.value in
    subst (λ (ps : List TwigPiece). AreInOrder (rank x.lo) ps) (sym is)
    (lies_filter (λ p. not (list_any (λ h. h.1.gone && points_to h.0.id p.part) hs)) (rank x.lo) all
    (follow_lies (rank x.lo) (rank x.hi) all c.in_ok-all.ensures.pieces.follow))

pub remade-requires-clause-short : goal.remade-requires-clause-short
remade-requires-clause-short c =
    let hs = map heard_seen c.args.heard.now in
    let all = c.in_ok-all.all.items in
    let is = c.as_slice-rest.ensures.value ∙ c.in_ok-left.ensures ∙ ap (without_gone hs) c.as_slice-pieces.ensures.value in
    subst (λ (ps : List TwigPiece). 16 * length ps ≤ 4068) (sym is)
    (without_bytes (λ p. not (list_any (λ h. h.1.gone && points_to h.0.id p.part) hs)) all c.in_ok-all.ensures.fits).0

pub returns-clause-pieces : goal.returns-clause-pieces
returns-clause-pieces c =
    let e = edits_of c.args.edits.now in
    let n = node_of c.args.twig.now in
    let hs = map heard_seen c.args.heard.now in
    c.in_ok-made-in-Some.ensures.pieces
    ∙ ap (remade c.in-Some.body.now e n) (c.as_slice-rest.ensures.value ∙ c.in_ok-left.ensures
    ∙ ap (without_gone hs) (c.as_slice-pieces.ensures.value ∙ c.in_ok-all.ensures.is
    ∙ ap (λ bytes. pieces_in (items_of bytes)) (sym (block_is c.args.twig.now))))
    ∙ sym (ap (λ o. pieces_after (option_copied o) e n hs) c.in-Some.is)
