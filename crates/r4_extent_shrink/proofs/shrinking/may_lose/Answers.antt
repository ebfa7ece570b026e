use Rattle.std.proofs.Common.{◌≡◌, List, map, true, ap, sym, subst, ◌∙◌}
use Rattle.std.specs.Prelude.{Contains}
use Rattle.std.specs.Arc.{arc_value}
use Rattle.std.specs.List.{list_all}
use Rattle.std.proofs.lemmas.Bool.{and_parts}
use Rattle.r4_content.specs.Edited.{Edits}
use Rattle.r4_content.specs.Held.{edits_of}
use Rattle.r4_extent_growth.specs.r4_leaf_edits.Suiting.{SuitLeaves}
use Rattle.r4_extent_growth.specs.r4_measure.r4_cell.Seen.{CellSeen}
use Rattle.r4_extent_growth.proofs.r4_extent_change.NoBytes.{suit_leaves}
use Rattle.r4_extent_growth.specs.r4_extent_change.Among.{losing_twigs}
use Rattle.r4_extent_growth.specs.r4_extent_change.Beside.{without_bytes}
use Rattle.r4_extent_growth.proofs.Tests.{both_ok}
use Rattle.r4_extent_growth.specs.Lying.{have_room, lie_in_leaves}
use Rattle.r4_extent_shrink.specs.Going.{IsKnown, may_leave}
use Rattle.r4_extent_shrink.specs.Shrink.{MayLoseAll, does_lose}
use Rattle.r4_extent_shrink.proofs.Found.{shrunk}
use Rattle.r4_extent_shrink.proofs.shrinking.may_lose.Goals as goal

pub have_room-requires : goal.have_room-requires
have_room-requires c = subst (SuitLeaves 16384) (sym c.in_ok-beside.ensures) (suit_leaves _ (edits_of c.args.edits.now) c.requires.suit)

pub returns-clause-may : goal.returns-clause-may
returns-clause-may c =
    let b = c.args.body.now in
    let e = edits_of c.args.edits.now in
    let f = c.args.fresh.now in
    let cells : List CellSeen = map (λ x. arc_value x) c.args.cells.now in
    let fits = c.if-not-fits_body.false in
    let (loses, lie) = and_parts (does_lose b e) (lie_in_leaves cells e) (sym c.fits_body.ensures.exact ∙ fits) in
    let room : have_room (without_bytes e) cells ≡ true = ap (λ (x : Edits). have_room x cells) (sym c.in_ok-beside.ensures) ∙ (sym c.in_ok-have_room.ensures ∙ c.if-not-branch.false) in
    let numbers = sym c.has_numbers.ensures ∙ c.if-not-has_numbers.false in
    let (first, losing) = c.fits_body.ensures.loses fits in
    both_ok c.may_leave_all.result (λ ok. ok ≡ list_all (may_leave b cells) (losing_twigs b cells))
    (λ ok. ok ≡ true → (x : CellSeen) → Contains cells x → IsKnown b x)
    (λ ok. ok ≡ true → MayLoseAll b e f cells)
    (λ ok exact known yes. shrunk b first e f cells losing lie room numbers (sym exact ∙ yes) (known yes))
    c.may_leave_all.ensures.exact c.may_leave_all.ensures.known
