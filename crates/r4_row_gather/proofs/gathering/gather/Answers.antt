use Rattle.std.proofs.Common.{◌≡◌, map, rules, subst, sym, true}
use Rattle.std.specs.Prelude.{IfSome}
use Rattle.std.specs.Arc.{arc_value}
use Rattle.r4_base.specs.Key.{rank}
use Rattle.r4_row_edit.specs.Climbing.{row_of}
use Rattle.r4_row_edit.specs.Parting.{CanPart, IsParted}
use Rattle.r4_row_gather.specs.Gathering.{HasTwigOf}
use Rattle.r4_row_gather.specs.Planning.{IsPlanOf}
use Rattle.r4_row_gather.specs.Rising.{AreRowsOver}
use Rattle.r4_row_gather.proofs.PlansMade.{plan_can_part, plan_gathers}
use Rattle.r4_row_gather.proofs.gathering.gather.Goals as goal

pub shift_parted-requires : goal.shift_parted-requires
shift_parted-requires c =
    let cells = map arc_value c.args.cells.now in
    let from = rank c.args.keys.now.from in
    let to = rank c.args.keys.now.to in
    let plan = subst (λ o. IfSome o (IsPlanOf cells from to)) c.in-Some.is c.in_ok-plan.ensures in
    let over = subst (λ row. AreRowsOver cells 2 row c.in-Some-2.above.items) c.as_slice.ensures
    (subst (λ o. IfSome o (λ v. AreRowsOver cells 2 (map arc_value c.as_slice.result.now) v.items)) c.in-Some-2.is
    c.in_ok-above.ensures) in
    subst (λ ps. CanPart c.in-Some.plan.row (map (λ p. p.items) ps) c.in-Some-2.above.items) (sym c.as_slice-2.ensures.value)
    (plan_can_part cells from to c.in-Some.plan plan c.in-Some-2.above.items over)

pub returns : goal.returns
returns c =
    let cells = map arc_value c.args.cells.now in
    let from = rank c.args.keys.now.from in
    let to = rank c.args.keys.now.to in
    let plan = subst (λ o. IfSome o (IsPlanOf cells from to)) c.in-Some.is c.in_ok-plan.ensures in
    let over = subst (λ row. AreRowsOver cells 2 row c.in-Some-2.above.items) c.as_slice.ensures
    (subst (λ o. IfSome o (λ v. AreRowsOver cells 2 (map arc_value c.as_slice.result.now) v.items)) c.in-Some-2.is
    c.in_ok-above.ensures) in
    let change = c.in_ok-change.change in
    let found : c.has_twig_of.result ≡ true = search rules in
    let parted = subst (λ ps. IsParted (row_of c.in-Some.plan.below) c.in-Some.plan.row (map (λ p. p.items) ps)
    c.in-Some-2.above.items change) c.as_slice-2.ensures.value c.in_ok-change.ensures in
    plan_gathers cells from to c.in-Some.plan plan c.in-Some-2.above.items over change c.in_ok-cells.cells parted
    (subst (λ cs. HasTwigOf cs from to) c.as_slice-3.ensures (c.has_twig_of.ensures found)) c.in_ok-cells.ensures
