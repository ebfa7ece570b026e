use Rattle.std.proofs.Common.{arith, sym, subst, ap, ◌≡◌, ◌<◌, ◌^◌, ◌∙◌}
use Rattle.std.specs.Prelude.{IfSome}
use Rattle.std.specs.Arc.{arc_value}
use Rattle.r4_base.specs.Key.{rank}
use Rattle.r4_base.specs.declared.key.Key.{Key}
use Rattle.r4_cell.specs.Seen.{CellSeen}
use Rattle.r4_list.specs.Frame.{IsNextLeaf, dir_number}
use Rattle.r4_list.proofs.FrameOpens.{begins_behind, next_none, none_beyond, opens_next}
use Rattle.r4_list.proofs.OverAnswers.{over_handed}
use Rattle.r4_list.proofs.frame.next_frame.Goals as goal

pub returns-clause-within : goal.returns-clause-within
returns-clause-within g c =
    let small = subst (λ o. IfSome o (λ leaf. rank c.hi-start.result < 2 ^ 256)) c.in-Some.is c.in_ok-leaf.ensures.within in
    subst (λ (x : CellSeen). rank x.hi < 2 ^ 256) c.deref.ensures (subst (λ (k : Key). rank k < 2 ^ 256) c.hi-start.ensures small)

pub returns-then-not-begins_with-clause-over : goal.returns-then-not-begins_with-clause-over
returns-then-not-begins_with-clause-over g c = λ n image m has over f dir from low stored.
    let hi = ap rank c.hi-start.ensures ∙ ap (λ (x : CellSeen). rank x.hi) c.deref.ensures in
    record {
      over = over;
      found = (none_beyond has f c.args.frame.now.dir.0 c.hi-start.result dir (hi ∙ sym from) (omega (arith, low, hi)) (λ h. c.begins_with.ensures.no c.if-not-begins_with.true (h ∙ sym c.first_number.ensures)) c.begins_with.ensures.below, tt);
      undamaged = tt;
    }

pub returns-in_err-leaf-clause-over : goal.returns-in_err-leaf-clause-over
returns-in_err-leaf-clause-over g c = λ n image m has over f dir from low stored.
    let first = c.begins_with.ensures.yes c.if-not-begins_with.false ∙ c.first_number.ensures in
    over_handed has c.args.root.now _ _ _ c.in_err-leaf.field-0.0 c.from_residual.result (c.in_err-leaf.ensures.over n image m has over c.args.frame.now.dir.0 first) c.from_residual.ensures.1

pub returns-in_default-clause-over : goal.returns-in_default-clause-over
returns-in_default-clause-over g c = λ n image m has over f dir from low stored.
    let first = c.begins_with.ensures.yes c.if-not-begins_with.false ∙ c.first_number.ensures in
    let hi = ap rank c.hi-start.ensures ∙ ap (λ (x : CellSeen). rank x.hi) c.deref.ensures in
    let h = c.in_ok-leaf.ensures.over n image m has over c.args.frame.now.dir.0 first in
    record { over = h.over; found = (next_none has f c.args.frame.now.dir.0 (rank c.hi-start.result) c.in_ok-leaf.field-0 dir (hi ∙ sym from) c.in_default.is h.found.0, tt); undamaged = tt }

pub returns-clause-over : goal.returns-clause-over
returns-clause-over g c = λ n image m has over f dir from low stored.
    let first = c.begins_with.ensures.yes c.if-not-begins_with.false ∙ c.first_number.ensures in
    let hi = ap rank c.hi-start.ensures ∙ ap (λ (x : CellSeen). rank x.hi) c.deref.ensures in
    let h = c.in_ok-leaf.ensures.over n image m has over c.args.frame.now.dir.0 first in
    let x = arc_value {X = CellSeen} c.args.frame.now.leaf in
    let y = arc_value {X = CellSeen} c.in-Some.leaf in
    let one = subst (λ o. IfSome o (λ leaf. (arc_value {X = CellSeen} leaf).level ≡ 1)) c.in-Some.is c.in_ok-leaf.ensures.level in
    let at = subst (λ o. IfSome o (λ leaf. IsNextLeaf has (rank c.hi-start.result) (arc_value {X = CellSeen} leaf))) c.in-Some.is h.found.1 in
    let next = subst (λ r. IsNextLeaf has r y) hi at in
    let begins = begins_behind has x y c.args.frame.now.level one stored next in
    record {
      over = h.over;
      found = (tt, record { dir_is = dir; stored = next.stored; stands = opens_next has f y one next.stored (rank x.hi) from (let d = ap dir_number dir in omega (arith, low, d)) begins next });
      undamaged = tt;
    }
