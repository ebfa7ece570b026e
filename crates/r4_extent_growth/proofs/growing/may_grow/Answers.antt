use Rattle.std.proofs.Common.{◌≡◌, List, map, true, ap, sym, subst, ◌∙◌}
use Rattle.std.specs.Prelude.{Contains, ◌&&◌}
use Rattle.std.specs.Arc.{arc_value}
use Rattle.std.specs.List.{list_all}
use Rattle.std.proofs.lemmas.Bool.{and_parts}
use Rattle.r4_content.specs.Edited.{Edits}
use Rattle.r4_content.specs.Held.{edits_of}
use Rattle.r4_twig_asks.specs.r4_leaf_edits.Suiting.{SuitLeaves}
use Rattle.r4_extent_change.specs.r4_measure.r4_cell.Seen.{CellSeen}
use Rattle.r4_extent_change.specs.r4_measure.r4_path.TwigPieces.{ArePiecesOf, twig_pieces}
use Rattle.r4_extent_change.proofs.NoBytes.{suit_leaves}
use Rattle.r4_extent_change.specs.Beside.{turning_among, without_bytes}
use Rattle.r4_extent_growth.specs.Growth.{MayGrow}
use Rattle.r4_extent_growth.specs.Lying.{have_room, is_whole, lie_in_leaves}
use Rattle.r4_extent_growth.specs.Turning.{does_grow, may_turn_all}
use Rattle.r4_extent_growth.proofs.Found.{grown}
use Rattle.r4_extent_growth.proofs.Tests.{both_ok}
use Rattle.r4_extent_growth.proofs.growing.may_grow.Goals as goal

pub have_room-requires : goal.have_room-requires
have_room-requires c = subst (SuitLeaves 16384) (sym c.in_ok-beside.ensures) (suit_leaves _ (edits_of c.args.edits.now) c.requires.suit)

pub returns-clause-may : goal.returns-clause-may
returns-clause-may c =
    let b = c.args.body.now in
    let e = edits_of c.args.edits.now in
    let f = c.args.fresh.now in
    let cells : List CellSeen = map (λ x. arc_value x) c.args.cells.now in
    let fits = c.if-not-fits_body.false in
    let (grows, held) = and_parts (does_grow b) (list_all is_whole cells && lie_in_leaves cells e) (sym c.fits_body.ensures.exact ∙ fits) in
    let (whole, lie) = and_parts (list_all is_whole cells) (lie_in_leaves cells e) held in
    let room : have_room (without_bytes e) cells ≡ true = ap (λ (x : Edits). have_room x cells) (sym c.in_ok-beside.ensures) ∙ (sym c.in_ok-have_room.ensures ∙ c.if-not-branch.false) in
    let (order, left) = c.in-Some.ensures in
    let (first, growing) = c.fits_body.ensures.grows fits in
    both_ok c.may_turn_all.result (λ ok. ok ≡ may_turn_all b e cells c.in-Some.left)
    (λ ok. ok ≡ true → (x : CellSeen) → Contains (turning_among b e cells) x → ArePiecesOf x (twig_pieces x))
    (λ ok. ok ≡ true → MayGrow b e f cells)
    (λ ok exact pieces yes. grown b first growing e f cells whole lie room order (ap (may_turn_all b e cells) (sym left) ∙ (sym exact ∙ yes)) (pieces yes))
    c.may_turn_all.ensures.exact c.may_turn_all.ensures.pieces
