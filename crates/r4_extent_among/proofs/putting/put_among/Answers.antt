use Rattle.std.proofs.Common.{map, ◌≡◌, ◌+◌, [], ap, arith, refl, ◌∙◌}
use Rattle.std.specs.Arc.{arc_value}
use Rattle.std.specs.Option.{option_copied}
use Rattle.r4_base.specs.Key.{rank}
use Rattle.r4_extent_build.specs.r4_cell.declared.change.Fresh.{Fresh}
use Rattle.r4_content.specs.Held.{edits_of}
use Rattle.r4_build.specs.r4_path.TwigPieces.{twig_pieces}
use Rattle.r4_extent_build.specs.r4_twig_work.Regrafting.{beside_of}
use Rattle.r4_extent_among.specs.Among.{with_leaves}
use Rattle.r4_extent_among.proofs.OneTurn.{are_turned, has_put, may_turn}
use Rattle.r4_extent_among.proofs.TurnOf.{few_leaves}
use Rattle.r4_extent_among.proofs.putting.put_among.Goals as goal

pub overflow_add-own : goal.overflow_add-own
overflow_add-own c =
    let b = option_copied c.args.body in
    let e = edits_of c.args.edits.now in
    let twig = c.args.twig.now in
    let f = c.args.fresh.now in
    let after = c.new_leaves.new.fresh in
    let cells = map (λ x. arc_value x) c.in_ok-leaves.leaves.items in
    let are = c.in_ok-leaves.ensures.leaves in
    let numbers = c.in_ok-leaves.ensures.numbered in
    let left = c.in_ok-leaves.ensures.fresh in
    let (t, (r, can)) = c.requires.can in
    let few = few_leaves b e twig cells are in
    let n = ap (λ (g : Fresh). g.next) left in
    let enough = can.numbers in
    omega (arith, few, n, enough)

pub regraft-requires-clause-can : goal.regraft-requires-clause-can
regraft-requires-clause-can c =
    let b = option_copied c.args.body in
    let e = edits_of c.args.edits.now in
    let twig = c.args.twig.now in
    let f = c.args.fresh.now in
    let after = c.new_leaves.new.fresh in
    let cells = map (λ x. arc_value x) c.in_ok-leaves.leaves.items in
    let are = c.in_ok-leaves.ensures.leaves in
    let numbers = c.in_ok-leaves.ensures.numbered in
    let left = c.in_ok-leaves.ensures.fresh in
    let (t, (r, can)) = c.requires.can in
    let key : rank c.lo.result ≡ rank twig.lo = ap rank c.lo.ensures in
    let made : c.in_ok-pieces.pieces.items ≡ with_leaves cells (twig_pieces twig)
    = c.in_ok-pieces.ensures ∙ ((λ i. with_leaves (map (λ x. arc_value x) (c.as_slice.ensures.value i)) c.in_ok-old.old.items) ∙ ap (with_leaves cells) c.in_ok-old.ensures.is) in
    let qs : c.as_slice-3.result.now ≡ with_leaves cells (twig_pieces twig) = c.as_slice-3.ensures.value ∙ made in
    let come : map (λ x. arc_value x) c.in_ok-all_of.field-0.items ≡ cells = c.in_ok-all_of.ensures ∙ ap (λ xs. map (λ x. arc_value x) xs) c.as_slice-2.ensures.value in
    let beside = beside_of (record { old = c.new.result; new = c.in_ok-all_of.field-0; blocks = c.new-2.result }) in
    let beside_is : beside ≡ record { below = record { old = []; new = cells }; blocks = [] }
    = (λ i. record { below = record { old = map (λ x. arc_value x) (c.new.ensures.items i); new = come i }; blocks = map (λ x. arc_value x) (c.new-2.ensures.items i) }) in
    (t, (r, (f.next + 0, may_turn b e twig f after cells are numbers left t r c.args.set.now can (rank c.lo.result) key c.as_slice-3.result.now qs beside beside_is)))

pub overflow_add-fresh : goal.overflow_add-fresh
overflow_add-fresh c =
    let b = option_copied c.args.body in
    let e = edits_of c.args.edits.now in
    let twig = c.args.twig.now in
    let f = c.args.fresh.now in
    let after = c.new_leaves.new.fresh in
    let cells = map (λ x. arc_value x) c.in_ok-leaves.leaves.items in
    let are = c.in_ok-leaves.ensures.leaves in
    let numbers = c.in_ok-leaves.ensures.numbered in
    let left = c.in_ok-leaves.ensures.fresh in
    let (t, (r, can)) = c.requires.can in
    let few = few_leaves b e twig cells are in
    let n = ap (λ (g : Fresh). g.next) left in
    let enough = can.numbers in
    omega (arith, few, n, enough)

pub returns : goal.returns
returns c =
    let b = option_copied c.args.body in
    let e = edits_of c.args.edits.now in
    let twig = c.args.twig.now in
    let f = c.args.fresh.now in
    let after = c.new_leaves.new.fresh in
    let cells = map (λ x. arc_value x) c.in_ok-leaves.leaves.items in
    let are = c.in_ok-leaves.ensures.leaves in
    let numbers = c.in_ok-leaves.ensures.numbered in
    let left = c.in_ok-leaves.ensures.fresh in
    let key : rank c.lo.result ≡ rank twig.lo = ap rank c.lo.ensures in
    let made : c.in_ok-pieces.pieces.items ≡ with_leaves cells (twig_pieces twig)
    = c.in_ok-pieces.ensures ∙ ((λ i. with_leaves (map (λ x. arc_value x) (c.as_slice.ensures.value i)) c.in_ok-old.old.items) ∙ ap (with_leaves cells) c.in_ok-old.ensures.is) in
    let qs : c.as_slice-3.result.now ≡ with_leaves cells (twig_pieces twig) = c.as_slice-3.ensures.value ∙ made in
    let come : map (λ x. arc_value x) c.in_ok-all_of.field-0.items ≡ cells = c.in_ok-all_of.ensures ∙ ap (λ xs. map (λ x. arc_value x) xs) c.as_slice-2.ensures.value in
    let beside = beside_of (record { old = c.new.result; new = c.in_ok-all_of.field-0; blocks = c.new-2.result }) in
    let beside_is : beside ≡ record { below = record { old = []; new = cells }; blocks = [] }
    = (λ i. record { below = record { old = map (λ x. arc_value x) (c.new.ensures.items i); new = come i }; blocks = map (λ x. arc_value x) (c.new-2.ensures.items i) }) in
    has_put b e twig f after cells are numbers left c.args.set.now c.regraft.new.set _ refl (λ t r can.
    let may = may_turn b e twig f after cells are numbers left t r c.args.set.now can (rank c.lo.result) key c.as_slice-3.result.now qs beside beside_is in
    are_turned b e twig f after cells are numbers left t r c.args.set.now can (rank c.lo.result) key c.as_slice-3.result.now qs beside beside_is c.regraft.new.fresh c.regraft.new.set
    (c.in_ok-regraft.ensures.regrafted t r (f.next + 0) may) (c.in_ok-regraft.ensures.effect t r (f.next + 0) may))
