use Rattle.std.proofs.Common.{map, ◌≡◌, ◌+◌, refl, ap, sym, ◌∙◌}
use Rattle.std.specs.Arc.{arc_value}
use Rattle.r4_base.specs.Key.{rank}
use Rattle.r4_extent_build.specs.r4_cell.Seen.{CellSeen}
use Rattle.r4_content.specs.Held.{edits_of}
use Rattle.r4_extent_build.specs.r4_twig_work.Regrafting.{beside_of}
use Rattle.r4_extent_turn.specs.Turning.{blocks_turned}
use Rattle.r4_extent_turn.specs.TurningIn.{turn_of}
use Rattle.r4_extent_turn.proofs.GivenLeaves.{twig_given}
use Rattle.r4_extent_turn.proofs.OneTurn.{are_turned, has_turned, may_turn}
use Rattle.r4_extent_turn.proofs.turning.turn_out.Goals as goal

pub regraft-requires-clause-can : goal.regraft-requires-clause-can
regraft-requires-clause-can c =
    let b = c.args.body.now in
    let e = edits_of c.args.edits.now in
    let x = turn_of c.args.turning.now in
    let f = c.args.fresh.now in
    let made = c.in_ok-pieces.field-0 in
    let (t, (r, can)) = c.requires.can in
    let key : rank c.lo.result ≡ rank x.twig.lo = ap rank (c.lo.ensures ∙ ap (λ (d : CellSeen). d.lo) (c.deref.ensures ∙ sym (twig_given (arc_value c.args.turning.now.twig) (map (λ d. arc_value d) c.args.turning.now.leaves.items)))) in (
      t,
      (
        r,
        (
          f.next + blocks_turned b e,
          may_turn b e x f c.made_for.new.fresh made.pieces.items (beside_of made.below) (map (λ d. arc_value d) made.cells.items) c.in_ok-pieces.ensures
              t r c.args.set.now can (rank c.lo.result) key c.as_slice.result.now c.as_slice.ensures.value,
        ),
      ),
    )

pub returns : goal.returns
returns c =
    let b = c.args.body.now in
    let e = edits_of c.args.edits.now in
    let x = turn_of c.args.turning.now in
    let f = c.args.fresh.now in
    let made = c.in_ok-pieces.field-0 in
    let after = c.made_for.new.fresh in
    let cells = map (λ d. arc_value d) made.cells.items in
    let m = c.in_ok-pieces.ensures in
    let key : rank c.lo.result ≡ rank x.twig.lo = ap rank (c.lo.ensures ∙ ap (λ (d : CellSeen). d.lo) (c.deref.ensures ∙ sym (twig_given (arc_value c.args.turning.now.twig) (map (λ d. arc_value d) c.args.turning.now.leaves.items)))) in
    has_turned b e x f after made.pieces.items (beside_of made.below) cells m c.args.set.now c.regraft.new.set _ refl (λ t r can.
    let may = may_turn b e x f after made.pieces.items (beside_of made.below) cells m t r c.args.set.now can (rank c.lo.result) key c.as_slice.result.now c.as_slice.ensures.value in
    are_turned b e x f after made.pieces.items (beside_of made.below) cells m t r c.args.set.now can (rank c.lo.result) key c.as_slice.result.now c.as_slice.ensures.value c.regraft.new.fresh c.regraft.new.set
    (c.in_ok-regraft.ensures.regrafted t r (f.next + blocks_turned b e) may) (c.in_ok-regraft.ensures.effect t r (f.next + blocks_turned b e) may))
