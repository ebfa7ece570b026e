use Rattle.std.proofs.Common.{◌+◌, map, refl, ap, ◌∙◌, arith}
use Rattle.std.specs.Arc.{arc_value}
use Rattle.r4_base.specs.Key.{rank}
use Rattle.r4_extent_demands.specs.r4_cell.declared.change.Fresh.{Fresh}
use Rattle.r4_content.specs.Held.{edits_of}
use Rattle.r4_extent_build.specs.Turns.{growing_turn}
use Rattle.r4_extent_build.proofs.OneTurn.{does_turn, is_turned, may_turn}
use Rattle.r4_extent_build.proofs.turning.regraft_one.Goals as goal

pub overflow_add-own : goal.overflow_add-own
overflow_add-own c =
    let n = ap (λ (f : Fresh). f.next) c.in_ok-pieces.ensures.left in
    let m = c.requires.numbers in
    omega (arith, n, m)

pub overflow_add-fresh : goal.overflow_add-fresh
overflow_add-fresh c =
    let n = ap (λ (f : Fresh). f.next) c.in_ok-pieces.ensures.left in
    let m = c.requires.numbers in
    omega (arith, n, m)

pub regraft-requires-clause-can : goal.regraft-requires-clause-can
regraft-requires-clause-can c =
    let (t, (r, is)) = c.requires.can in
    let e = growing_turn c.args.body.now (edits_of c.args.edits.now) c.args.twig.now in (
      t,
      (
        r,
        (
          c.args.fresh.now.next + e.blocks,
          may_turn e c.args.fresh.now c.numbered.new.fresh refl c.in_ok-pieces.ensures.left t r c.args.set.now (rank c.lo.result) c.as_slice.result.now _ (ap rank c.lo.ensures) (c.as_slice.ensures.value ∙ c.in_ok-pieces.ensures.pieces)
              (λ i. record { below = record { old = map (λ x. arc_value x) (c.new.ensures.items i); new = map (λ x. arc_value x) (c.new-2.ensures.items i) }; blocks = c.in_ok-pieces.ensures.cells i }) is,
        ),
      ),
    )

pub returns-clause-turned : goal.returns-clause-turned
returns-clause-turned c = λ t r is.
    let e = growing_turn c.args.body.now (edits_of c.args.edits.now) c.args.twig.now in
    let can = may_turn e c.args.fresh.now c.numbered.new.fresh refl c.in_ok-pieces.ensures.left t r c.args.set.now (rank c.lo.result) c.as_slice.result.now _ (ap rank c.lo.ensures) (c.as_slice.ensures.value ∙ c.in_ok-pieces.ensures.pieces)
    (λ i. record { below = record { old = map (λ x. arc_value x) (c.new.ensures.items i); new = map (λ x. arc_value x) (c.new-2.ensures.items i) }; blocks = c.in_ok-pieces.ensures.cells i }) is in (
      c.regraft.new.fresh,
      is_turned e c.args.fresh.now c.numbered.new.fresh refl c.in_ok-pieces.ensures.left t r c.args.set.now (rank c.lo.result) c.as_slice.result.now _ (ap rank c.lo.ensures) (c.as_slice.ensures.value ∙ c.in_ok-pieces.ensures.pieces)
          (λ i. record { below = record { old = map (λ x. arc_value x) (c.new.ensures.items i); new = map (λ x. arc_value x) (c.new-2.ensures.items i) }; blocks = c.in_ok-pieces.ensures.cells i }) c.regraft.new.fresh c.regraft.new.set (c.in_ok-regraft.ensures.regrafted t r (c.args.fresh.now.next + e.blocks) can),
    )

pub returns-clause-does : goal.returns-clause-does
returns-clause-does c = λ t r is.
    let e = growing_turn c.args.body.now (edits_of c.args.edits.now) c.args.twig.now in
    let can = may_turn e c.args.fresh.now c.numbered.new.fresh refl c.in_ok-pieces.ensures.left t r c.args.set.now (rank c.lo.result) c.as_slice.result.now _ (ap rank c.lo.ensures) (c.as_slice.ensures.value ∙ c.in_ok-pieces.ensures.pieces)
    (λ i. record { below = record { old = map (λ x. arc_value x) (c.new.ensures.items i); new = map (λ x. arc_value x) (c.new-2.ensures.items i) }; blocks = c.in_ok-pieces.ensures.cells i }) is in
    does_turn e c.args.fresh.now c.numbered.new.fresh refl c.in_ok-pieces.ensures.left t r c.args.set.now (rank c.lo.result) c.as_slice.result.now _ (ap rank c.lo.ensures) (c.as_slice.ensures.value ∙ c.in_ok-pieces.ensures.pieces)
    (λ i. record { below = record { old = map (λ x. arc_value x) (c.new.ensures.items i); new = map (λ x. arc_value x) (c.new-2.ensures.items i) }; blocks = c.in_ok-pieces.ensures.cells i }) c.regraft.new.set (c.in_ok-regraft.ensures.effect t r (c.args.fresh.now.next + e.blocks) can)
