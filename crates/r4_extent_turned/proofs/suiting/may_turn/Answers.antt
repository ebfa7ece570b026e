use Rattle.std.proofs.Common.{◌≡◌, List, map, true, ap, sym, subst, ◌∙◌}
use Rattle.std.specs.Prelude.{◌&&◌}
use Rattle.std.specs.Arc.{arc_value}
use Rattle.std.specs.List.{list_all}
use Rattle.std.proofs.lemmas.Bool.{and_parts}
use Rattle.r4_content.specs.Edited.{Edits}
use Rattle.r4_content.specs.Held.{edits_of}
use Rattle.r4_extent_shrink.specs.r4_extent_growth.Lying.{have_room, lie_in_leaves}
use Rattle.r4_extent_shrink.specs.r4_extent_growth.r4_extent_change.Beside.{without_bytes}
use Rattle.r4_extent_shrink.specs.r4_extent_growth.r4_leaf_edits.Suiting.{SuitLeaves}
use Rattle.r4_extent_shrink.specs.r4_extent_growth.r4_measure.r4_cell.Seen.{CellSeen}
use Rattle.r4_extent_shrink.specs.r4_extent_growth.r4_measure.r4_path.TwigPieces.{ArePiecesOf, twig_pieces}
use Rattle.r4_extent_shrink.specs.r4_extent_growth.r4_measure.r4_reach.Touched.{turns_out}
use Rattle.r4_extent_shrink.proofs.r4_extent_growth.Tests.{both_ok}
use Rattle.r4_extent_shrink.proofs.r4_extent_growth.r4_extent_change.NoBytes.{suit_leaves}
use Rattle.r4_extent_turn.specs.Turning.{last_of}
use Rattle.r4_extent_turn.specs.TurningIn.{turn_of}
use Rattle.r4_extent_turned.specs.MayTurn.{MayTurnWhole}
use Rattle.r4_extent_turned.specs.Suiting.{changes_before, has_leaves, leaves_suit, twig_suits}
use Rattle.r4_extent_turned.proofs.Suited.{suited}
use Rattle.r4_extent_turned.proofs.suiting.may_turn.Goals as goal

pub have_room-requires : goal.have_room-requires
have_room-requires c = subst (SuitLeaves 16384) (sym c.in_ok-beside.ensures) (suit_leaves _ (edits_of c.args.edits.now) c.requires.suit)

pub returns-clause-may : goal.returns-clause-may
returns-clause-may c =
    let b = c.args.body.now in
    let e = edits_of c.args.edits.now in
    let f = c.args.fresh.now in
    let cells : List CellSeen = map (λ x. arc_value x) c.args.cells.now in
    let x = turn_of c.args.turning.now in
    let fits = c.if-not-fits_body.false in
    let (turns, lie) = and_parts (turns_out b) (lie_in_leaves cells e) (sym c.fits_body.ensures.exact ∙ fits) in
    let room : have_room (without_bytes e) cells ≡ true = ap (λ (y : Edits). have_room y cells) (sym c.in_ok-beside.ensures) ∙ (sym c.in_ok-have_room.ensures ∙ c.if-not-branch.false) in
    let changes : list_all (changes_before b (without_bytes e)) cells ≡ true = ap (λ (y : Edits). list_all (changes_before b y) cells) (sym c.in_ok-beside.ensures) ∙ (sym c.change_before.ensures.exact ∙ c.if-not-change_before.false) in
    let (first, turning) = c.fits_body.ensures.turns fits in
    both_ok c.turn_suits.result
    (λ ok. ok ≡ (has_leaves b x.twig (last_of x) && (leaves_suit b x.leaf x.more && twig_suits b e f cells x.twig (last_of x))))
    (λ ok. ok ≡ true → ArePiecesOf x.twig (twig_pieces x.twig))
    (λ ok. ok ≡ true → MayTurnWhole b e f cells x)
    (λ ok exact pieces yes.
    let (has, rest) = and_parts (has_leaves b x.twig (last_of x)) (leaves_suit b x.leaf x.more && twig_suits b e f cells x.twig (last_of x)) (sym exact ∙ yes) in
    let (leaves, twig) = and_parts (leaves_suit b x.leaf x.more) (twig_suits b e f cells x.twig (last_of x)) rest in
    suited b e f cells x first turning lie room changes has leaves twig (c.change_before.ensures.known c.if-not-change_before.false) (pieces yes))
    c.turn_suits.ensures.exact c.turn_suits.ensures.pieces
