use Rattle.std.proofs.Common.{◌∙◌, ◌++◌, map, sym, ap, arith}
use Rattle.std.proofs.lemmas.List.{append-nil}
use Rattle.std.specs.Arc.{arc_value}
use Rattle.std.proofs.lemmas.Result.{IfOk-weaker}
use Rattle.r4_base.specs.Key.{rank}
use Rattle.r4_work.specs.Working.{standing}
use Rattle.r4_work.proofs.Ups.{one_and_rest, ups_more, ups_none, ups_past}
use Rattle.r4_work.proofs.working.WorkingSet.+add_ups.Goals as goal

pub returns-in_ok-push-in-Some : goal.returns-in_ok-push-in-Some
returns-in_ok-push-in-Some t c =
    let level = c.requires in
    let other = c.if-level-eq9.false in
    IfOk-weaker c.add_ups.result _ _ (λ _ e apart.
    one_and_rest (λ x. arc_value x) c.args.path.now.items c.push.new.self.items c.in_ok-try_clone-in-Some.field-0 (arc_value c.in-Some.cell.now) _ _ _
    c.in_ok-push-in-Some.ensures.items c.in_ok-try_clone-in-Some.ensures (e apart)
    (ups_more (standing c.args.self.now) c.args.level (rank c.args.key) (arc_value c.in-Some.cell.now) (omega (arith, level, other))
    (sym (c.in-Some.ensures.exact apart)))) c.add_ups.ensures

pub returns-then-level-eq9 : goal.returns-then-level-eq9
returns-then-level-eq9 t c apart =
    sym (ap (λ xs. map (λ x. arc_value x) c.args.path.now.items ++ xs) (ups_past (standing c.args.self.now) c.args.level (rank c.args.key) c.if-level-eq9.true)
    ∙ append-nil (map (λ x. arc_value x) c.args.path.now.items))

pub returns-in-None : goal.returns-in-None
returns-in-None t c apart =
    let level = c.requires in
    let other = c.if-level-eq9.false in
    sym (ap (λ xs. map (λ x. arc_value x) c.args.path.now.items ++ xs)
    (ups_none (standing c.args.self.now) c.args.level (rank c.args.key) (omega (arith, level, other)) (sym (c.in-None.ensures.exact apart)))
    ∙ append-nil (map (λ x. arc_value x) c.args.path.now.items))
