use Rattle.std.proofs.Common.{◌≡◌, ◌+◌, [], map, refl, sym, ap, subst, ◌∙◌, arith}
use Rattle.std.specs.Prelude.{Contains, Some}
use Rattle.std.specs.Arc.{arc_value}
use Rattle.r4_base.specs.Key.{rank}
use Rattle.r4_extent_build.specs.r4_cell.Seen.{CellSeen, node_of}
use Rattle.r4_content.specs.Held.{edits_of}
use Rattle.r4_extent_build.specs.r4_path.Sharing.{IsSound}
use Rattle.r4_extent_build.specs.r4_reach.Needs.{pieces_after}
use Rattle.r4_extent_build.specs.r4_twig_work.Regrafting.{beside_of}
use Rattle.r4_extent_loss.specs.Losing.{leaf_at, losing_turn, numbers_taken, taken_block, taken_id}
use Rattle.r4_extent_loss.specs.LosingEach.{loss_of}
use Rattle.r4_extent_loss.proofs.OneLoss.{count_is, does_turn, is_turned, may_turn, new_is, pieces_are, sounds}
use Rattle.r4_extent_loss.proofs.losing.regraft_one.Goals as goal

pub leaf_at-requires : goal.leaf_at-requires
leaf_at-requires c =
    let b = c.args.body.now in
    let e = edits_of c.args.edits.now in
    let x = loss_of c.args.losing.now in
    let f = c.args.fresh.now in
    let turn = losing_turn b e x in
    let (first, losing) = c.requires.losing in
    let twig_is : c.deref.result.now ≡ x.twig = c.deref.ensures in
    let after_is : c.in_ok-after.after.items ≡ pieces_after (Some b) e (node_of x.twig) [] = c.in_ok-after.ensures.pieces ∙ ap (λ (z : CellSeen). pieces_after (Some b) e (node_of z) []) twig_is in
    let seen : c.as_slice.result.now ≡ pieces_after (Some b) e (node_of x.twig) [] = c.as_slice.ensures.value ∙ after_is in
    subst (λ k. (d : CellSeen) → Contains (leaf_at (rank c.taken_from-taken.result) k x.twig.hi (taken_block x) c.as_slice.result.now) d → IsSound d) (sym c.taken_id-id.ensures)
    (sounds b first e x losing c.requires.loss f.next c.requires.low (rank c.taken_from-taken.result) c.as_slice.result.now c.taken_from-taken.ensures seen)

pub overflow_add-next : goal.overflow_add-next
overflow_add-next c =
    let b = c.args.body.now in
    let e = edits_of c.args.edits.now in
    let x = loss_of c.args.losing.now in
    let f = c.args.fresh.now in
    let turn = losing_turn b e x in
    let (first, losing) = c.requires.losing in
    let twig_is : c.deref.result.now ≡ x.twig = c.deref.ensures in
    let after_is : c.in_ok-after.after.items ≡ pieces_after (Some b) e (node_of x.twig) [] = c.in_ok-after.ensures.pieces ∙ ap (λ (z : CellSeen). pieces_after (Some b) e (node_of z) []) twig_is in
    let seen : c.as_slice.result.now ≡ pieces_after (Some b) e (node_of x.twig) [] = c.as_slice.ensures.value ∙ after_is in
    let news_are : map (λ y. arc_value y) c.in_ok-new.new.items ≡ leaf_at (rank c.taken_from-taken.result) (taken_id x f.next) x.twig.hi (taken_block x) c.as_slice.result.now = c.in_ok-new.ensures ∙ ap (λ k. leaf_at (rank c.taken_from-taken.result) k x.twig.hi (taken_block x) c.as_slice.result.now) c.taken_id-id.ensures in
    let leaves : c.numbers_taken.result ≡ turn.leaves = c.numbers_taken.ensures ∙ ap (λ ys. numbers_taken x (map (λ y. arc_value y) ys)) c.as_slice-2.ensures.value ∙ count_is b first e x losing c.requires.loss f.next c.requires.low (rank c.taken_from-taken.result) c.as_slice.result.now c.taken_from-taken.ensures seen (map (λ y. arc_value y) c.in_ok-new.new.items) news_are in
    let numbers = c.requires.numbers in
    omega (arith, leaves, numbers)

pub overflow_add-own : goal.overflow_add-own
overflow_add-own c =
    let b = c.args.body.now in
    let e = edits_of c.args.edits.now in
    let x = loss_of c.args.losing.now in
    let f = c.args.fresh.now in
    let turn = losing_turn b e x in
    let (first, losing) = c.requires.losing in
    let twig_is : c.deref.result.now ≡ x.twig = c.deref.ensures in
    let after_is : c.in_ok-after.after.items ≡ pieces_after (Some b) e (node_of x.twig) [] = c.in_ok-after.ensures.pieces ∙ ap (λ (z : CellSeen). pieces_after (Some b) e (node_of z) []) twig_is in
    let seen : c.as_slice.result.now ≡ pieces_after (Some b) e (node_of x.twig) [] = c.as_slice.ensures.value ∙ after_is in
    let news_are : map (λ y. arc_value y) c.in_ok-new.new.items ≡ leaf_at (rank c.taken_from-taken.result) (taken_id x f.next) x.twig.hi (taken_block x) c.as_slice.result.now = c.in_ok-new.ensures ∙ ap (λ k. leaf_at (rank c.taken_from-taken.result) k x.twig.hi (taken_block x) c.as_slice.result.now) c.taken_id-id.ensures in
    let leaves : c.numbers_taken.result ≡ turn.leaves = c.numbers_taken.ensures ∙ ap (λ ys. numbers_taken x (map (λ y. arc_value y) ys)) c.as_slice-2.ensures.value ∙ count_is b first e x losing c.requires.loss f.next c.requires.low (rank c.taken_from-taken.result) c.as_slice.result.now c.taken_from-taken.ensures seen (map (λ y. arc_value y) c.in_ok-new.new.items) news_are in
    let numbers = c.requires.numbers in
    omega (arith, leaves, numbers)

pub overflow_add-fresh : goal.overflow_add-fresh
overflow_add-fresh c =
    let b = c.args.body.now in
    let e = edits_of c.args.edits.now in
    let x = loss_of c.args.losing.now in
    let f = c.args.fresh.now in
    let turn = losing_turn b e x in
    let (first, losing) = c.requires.losing in
    let twig_is : c.deref.result.now ≡ x.twig = c.deref.ensures in
    let after_is : c.in_ok-after.after.items ≡ pieces_after (Some b) e (node_of x.twig) [] = c.in_ok-after.ensures.pieces ∙ ap (λ (z : CellSeen). pieces_after (Some b) e (node_of z) []) twig_is in
    let seen : c.as_slice.result.now ≡ pieces_after (Some b) e (node_of x.twig) [] = c.as_slice.ensures.value ∙ after_is in
    let news_are : map (λ y. arc_value y) c.in_ok-new.new.items ≡ leaf_at (rank c.taken_from-taken.result) (taken_id x f.next) x.twig.hi (taken_block x) c.as_slice.result.now = c.in_ok-new.ensures ∙ ap (λ k. leaf_at (rank c.taken_from-taken.result) k x.twig.hi (taken_block x) c.as_slice.result.now) c.taken_id-id.ensures in
    let leaves : c.numbers_taken.result ≡ turn.leaves = c.numbers_taken.ensures ∙ ap (λ ys. numbers_taken x (map (λ y. arc_value y) ys)) c.as_slice-2.ensures.value ∙ count_is b first e x losing c.requires.loss f.next c.requires.low (rank c.taken_from-taken.result) c.as_slice.result.now c.taken_from-taken.ensures seen (map (λ y. arc_value y) c.in_ok-new.new.items) news_are in
    let numbers = c.requires.numbers in
    omega (arith, leaves, numbers)

pub regraft-requires-clause-can : goal.regraft-requires-clause-can
regraft-requires-clause-can c =
    let b = c.args.body.now in
    let e = edits_of c.args.edits.now in
    let x = loss_of c.args.losing.now in
    let f = c.args.fresh.now in
    let turn = losing_turn b e x in
    let (first, losing) = c.requires.losing in
    let twig_is : c.deref.result.now ≡ x.twig = c.deref.ensures in
    let after_is : c.in_ok-after.after.items ≡ pieces_after (Some b) e (node_of x.twig) [] = c.in_ok-after.ensures.pieces ∙ ap (λ (z : CellSeen). pieces_after (Some b) e (node_of z) []) twig_is in
    let seen : c.as_slice.result.now ≡ pieces_after (Some b) e (node_of x.twig) [] = c.as_slice.ensures.value ∙ after_is in
    let news_are : map (λ y. arc_value y) c.in_ok-new.new.items ≡ leaf_at (rank c.taken_from-taken.result) (taken_id x f.next) x.twig.hi (taken_block x) c.as_slice.result.now = c.in_ok-new.ensures ∙ ap (λ k. leaf_at (rank c.taken_from-taken.result) k x.twig.hi (taken_block x) c.as_slice.result.now) c.taken_id-id.ensures in
    let leaves : c.numbers_taken.result ≡ turn.leaves = c.numbers_taken.ensures ∙ ap (λ ys. numbers_taken x (map (λ y. arc_value y) ys)) c.as_slice-2.ensures.value ∙ count_is b first e x losing c.requires.loss f.next c.requires.low (rank c.taken_from-taken.result) c.as_slice.result.now c.taken_from-taken.ensures seen (map (λ y. arc_value y) c.in_ok-new.new.items) news_are in
    let numbers = c.requires.numbers in
    let key : rank c.lo.result ≡ turn.key = ap rank c.lo.ensures ∙ ap (λ (z : CellSeen). rank z.lo) c.deref-2.ensures in
    let ps : c.as_slice-3.result.now ≡ turn.pieces f.next = c.as_slice-3.ensures.value ∙ (c.in_ok-pieces.ensures ∙ pieces_are b first e x losing c.requires.loss f.next c.requires.low (rank c.taken_from-taken.result) c.in_ok-after.after.items c.taken_from-taken.ensures after_is) in
    let new : map (λ y. arc_value y) c.in_ok-new.new.items ≡ (turn.beside f.next).below.new = news_are ∙ new_is b first e x losing c.requires.loss f.next c.requires.low (rank c.taken_from-taken.result) c.as_slice.result.now c.taken_from-taken.ensures seen in
    let beside : beside_of (record { old = c.in_ok-old.old; new = c.in_ok-new.new; blocks = c.new.result }) ≡ turn.beside f.next =
    λ i. record { below = record { old = c.in_ok-old.ensures i; new = new i }; blocks = map (λ y. arc_value y) (c.new.ensures.items i) } in
    let next : f.next + c.numbers_taken.result ≡ f.next + turn.leaves = omega (arith, leaves) in
    let (t, (r, is)) = c.requires.can in
    (t, (r, (f.next + turn.blocks, may_turn turn f (record { next = f.next + c.numbers_taken.result; end = f.next + c.numbers_taken.result + 64 }) (f.next + c.numbers_taken.result) refl next refl t r c.args.set.now (rank c.lo.result) c.as_slice-3.result.now (beside_of (record { old = c.in_ok-old.old; new = c.in_ok-new.new; blocks = c.new.result })) key ps beside is)))

pub returns-clause-turned : goal.returns-clause-turned
returns-clause-turned c = λ t r is.
    let b = c.args.body.now in
    let e = edits_of c.args.edits.now in
    let x = loss_of c.args.losing.now in
    let f = c.args.fresh.now in
    let turn = losing_turn b e x in
    let (first, losing) = c.requires.losing in
    let twig_is : c.deref.result.now ≡ x.twig = c.deref.ensures in
    let after_is : c.in_ok-after.after.items ≡ pieces_after (Some b) e (node_of x.twig) [] = c.in_ok-after.ensures.pieces ∙ ap (λ (z : CellSeen). pieces_after (Some b) e (node_of z) []) twig_is in
    let seen : c.as_slice.result.now ≡ pieces_after (Some b) e (node_of x.twig) [] = c.as_slice.ensures.value ∙ after_is in
    let news_are : map (λ y. arc_value y) c.in_ok-new.new.items ≡ leaf_at (rank c.taken_from-taken.result) (taken_id x f.next) x.twig.hi (taken_block x) c.as_slice.result.now = c.in_ok-new.ensures ∙ ap (λ k. leaf_at (rank c.taken_from-taken.result) k x.twig.hi (taken_block x) c.as_slice.result.now) c.taken_id-id.ensures in
    let leaves : c.numbers_taken.result ≡ turn.leaves = c.numbers_taken.ensures ∙ ap (λ ys. numbers_taken x (map (λ y. arc_value y) ys)) c.as_slice-2.ensures.value ∙ count_is b first e x losing c.requires.loss f.next c.requires.low (rank c.taken_from-taken.result) c.as_slice.result.now c.taken_from-taken.ensures seen (map (λ y. arc_value y) c.in_ok-new.new.items) news_are in
    let numbers = c.requires.numbers in
    let key : rank c.lo.result ≡ turn.key = ap rank c.lo.ensures ∙ ap (λ (z : CellSeen). rank z.lo) c.deref-2.ensures in
    let ps : c.as_slice-3.result.now ≡ turn.pieces f.next = c.as_slice-3.ensures.value ∙ (c.in_ok-pieces.ensures ∙ pieces_are b first e x losing c.requires.loss f.next c.requires.low (rank c.taken_from-taken.result) c.in_ok-after.after.items c.taken_from-taken.ensures after_is) in
    let new : map (λ y. arc_value y) c.in_ok-new.new.items ≡ (turn.beside f.next).below.new = news_are ∙ new_is b first e x losing c.requires.loss f.next c.requires.low (rank c.taken_from-taken.result) c.as_slice.result.now c.taken_from-taken.ensures seen in
    let beside : beside_of (record { old = c.in_ok-old.old; new = c.in_ok-new.new; blocks = c.new.result }) ≡ turn.beside f.next =
    λ i. record { below = record { old = c.in_ok-old.ensures i; new = new i }; blocks = map (λ y. arc_value y) (c.new.ensures.items i) } in
    let next : f.next + c.numbers_taken.result ≡ f.next + turn.leaves = omega (arith, leaves) in
    let can = may_turn turn f (record { next = f.next + c.numbers_taken.result; end = f.next + c.numbers_taken.result + 64 }) (f.next + c.numbers_taken.result) refl next refl t r c.args.set.now (rank c.lo.result) c.as_slice-3.result.now (beside_of (record { old = c.in_ok-old.old; new = c.in_ok-new.new; blocks = c.new.result })) key ps beside is in
    (c.regraft.new.fresh, is_turned turn f (record { next = f.next + c.numbers_taken.result; end = f.next + c.numbers_taken.result + 64 }) (f.next + c.numbers_taken.result) refl next refl t r c.args.set.now (rank c.lo.result) c.as_slice-3.result.now (beside_of (record { old = c.in_ok-old.old; new = c.in_ok-new.new; blocks = c.new.result })) key ps beside c.regraft.new.fresh c.regraft.new.set (c.in_ok-regraft.ensures.regrafted t r (f.next + turn.blocks) can))

pub returns-clause-does : goal.returns-clause-does
returns-clause-does c = λ t r is.
    let b = c.args.body.now in
    let e = edits_of c.args.edits.now in
    let x = loss_of c.args.losing.now in
    let f = c.args.fresh.now in
    let turn = losing_turn b e x in
    let (first, losing) = c.requires.losing in
    let twig_is : c.deref.result.now ≡ x.twig = c.deref.ensures in
    let after_is : c.in_ok-after.after.items ≡ pieces_after (Some b) e (node_of x.twig) [] = c.in_ok-after.ensures.pieces ∙ ap (λ (z : CellSeen). pieces_after (Some b) e (node_of z) []) twig_is in
    let seen : c.as_slice.result.now ≡ pieces_after (Some b) e (node_of x.twig) [] = c.as_slice.ensures.value ∙ after_is in
    let news_are : map (λ y. arc_value y) c.in_ok-new.new.items ≡ leaf_at (rank c.taken_from-taken.result) (taken_id x f.next) x.twig.hi (taken_block x) c.as_slice.result.now = c.in_ok-new.ensures ∙ ap (λ k. leaf_at (rank c.taken_from-taken.result) k x.twig.hi (taken_block x) c.as_slice.result.now) c.taken_id-id.ensures in
    let leaves : c.numbers_taken.result ≡ turn.leaves = c.numbers_taken.ensures ∙ ap (λ ys. numbers_taken x (map (λ y. arc_value y) ys)) c.as_slice-2.ensures.value ∙ count_is b first e x losing c.requires.loss f.next c.requires.low (rank c.taken_from-taken.result) c.as_slice.result.now c.taken_from-taken.ensures seen (map (λ y. arc_value y) c.in_ok-new.new.items) news_are in
    let numbers = c.requires.numbers in
    let key : rank c.lo.result ≡ turn.key = ap rank c.lo.ensures ∙ ap (λ (z : CellSeen). rank z.lo) c.deref-2.ensures in
    let ps : c.as_slice-3.result.now ≡ turn.pieces f.next = c.as_slice-3.ensures.value ∙ (c.in_ok-pieces.ensures ∙ pieces_are b first e x losing c.requires.loss f.next c.requires.low (rank c.taken_from-taken.result) c.in_ok-after.after.items c.taken_from-taken.ensures after_is) in
    let new : map (λ y. arc_value y) c.in_ok-new.new.items ≡ (turn.beside f.next).below.new = news_are ∙ new_is b first e x losing c.requires.loss f.next c.requires.low (rank c.taken_from-taken.result) c.as_slice.result.now c.taken_from-taken.ensures seen in
    let beside : beside_of (record { old = c.in_ok-old.old; new = c.in_ok-new.new; blocks = c.new.result }) ≡ turn.beside f.next =
    λ i. record { below = record { old = c.in_ok-old.ensures i; new = new i }; blocks = map (λ y. arc_value y) (c.new.ensures.items i) } in
    let next : f.next + c.numbers_taken.result ≡ f.next + turn.leaves = omega (arith, leaves) in
    let can = may_turn turn f (record { next = f.next + c.numbers_taken.result; end = f.next + c.numbers_taken.result + 64 }) (f.next + c.numbers_taken.result) refl next refl t r c.args.set.now (rank c.lo.result) c.as_slice-3.result.now (beside_of (record { old = c.in_ok-old.old; new = c.in_ok-new.new; blocks = c.new.result })) key ps beside is in
    does_turn turn f (record { next = f.next + c.numbers_taken.result; end = f.next + c.numbers_taken.result + 64 }) (f.next + c.numbers_taken.result) refl next refl t r c.args.set.now (rank c.lo.result) c.as_slice-3.result.now (beside_of (record { old = c.in_ok-old.old; new = c.in_ok-new.new; blocks = c.new.result })) key ps beside c.regraft.new.set (c.in_ok-regraft.ensures.effect t r (f.next + turn.blocks) can)

pub returns-clause-left : goal.returns-clause-left
returns-clause-left c =
    let b = c.args.body.now in
    let e = edits_of c.args.edits.now in
    let x = loss_of c.args.losing.now in
    let f = c.args.fresh.now in
    let turn = losing_turn b e x in
    let (first, losing) = c.requires.losing in
    let twig_is : c.deref.result.now ≡ x.twig = c.deref.ensures in
    let after_is : c.in_ok-after.after.items ≡ pieces_after (Some b) e (node_of x.twig) [] = c.in_ok-after.ensures.pieces ∙ ap (λ (z : CellSeen). pieces_after (Some b) e (node_of z) []) twig_is in
    let seen : c.as_slice.result.now ≡ pieces_after (Some b) e (node_of x.twig) [] = c.as_slice.ensures.value ∙ after_is in
    let news_are : map (λ y. arc_value y) c.in_ok-new.new.items ≡ leaf_at (rank c.taken_from-taken.result) (taken_id x f.next) x.twig.hi (taken_block x) c.as_slice.result.now = c.in_ok-new.ensures ∙ ap (λ k. leaf_at (rank c.taken_from-taken.result) k x.twig.hi (taken_block x) c.as_slice.result.now) c.taken_id-id.ensures in
    let leaves : c.numbers_taken.result ≡ turn.leaves = c.numbers_taken.ensures ∙ ap (λ ys. numbers_taken x (map (λ y. arc_value y) ys)) c.as_slice-2.ensures.value ∙ count_is b first e x losing c.requires.loss f.next c.requires.low (rank c.taken_from-taken.result) c.as_slice.result.now c.taken_from-taken.ensures seen (map (λ y. arc_value y) c.in_ok-new.new.items) news_are in
    let numbers = c.requires.numbers in
    let n : f.next + c.numbers_taken.result + 64 ≡ f.next + (turn.blocks + (turn.leaves + 64)) = omega (arith, leaves) in
    λ i. record { next = n i; end = f.end }
