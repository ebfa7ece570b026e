use Rattle.std.proofs.Common.{sym, ◌∙◌, subst}
use Rattle.r4_ready.specs.r4_kept.Steps.{TakesStep}
use Rattle.r4_ready.specs.r4_kept.View.{CoreSeen}
use Rattle.r4_ready.specs.r4_kept.declared.parts.Step.TheVariants.{Committed}
use Rattle.r4_ready.proofs.r4_kept.Resting.{deferred_is_marked}
use Rattle.r4_core.proofs.Stepped.{at_nothing, at_plan, ended, never_idle, stepped}
use Rattle.r4_core.proofs.core_state.Core.commit_step.Goals as goal

pub advance-requires-after_bounds : goal.advance-requires-after_bounds
advance-requires-after_bounds g c κs within =
    rw (← c.self.view_is) (at_plan _ _ _ c.self.invariant c.in-Some.commit c.in-Some.is
    (sym c.is_some-writes.ensures ∙ c.if-writes.true))

pub empty-requires-after_bounds : goal.empty-requires-after_bounds
empty-requires-after_bounds g c κs within =
    rw (← c.self.view_is) (at_nothing _ _ _ c.self.invariant c.in-Some.commit c.in-Some.is
    (sym c.is_some-writes.ensures ∙ c.if-writes.false))

pub returns-then-writes-clause-step : goal.returns-then-writes-clause-step
returns-then-writes-clause-step g c =
    let all = rw (← c.self.view_is) at c.advance.ensures.advanced in
    subst (λ (x : CoreSeen g.row.D.Denot). TakesStep (g.D.Device.state x.dev)
    (g.D.Device.state c.advance.new.self.dev) x c.advance.new.self x.commit c.advance.result) c.self.view_is (stepped _
    _ _ c.self.invariant c.in-Some.commit c.in-Some.is
    (g.D.Device.state c.advance.new.self.dev) c.advance.new.self c.advance.result
    (sym c.is_some-writes.ensures ∙ c.if-writes.true) all)

pub returns-then-writes-clause-idle : goal.returns-then-writes-clause-idle
returns-then-writes-clause-idle g c =
    let all = rw (← c.self.view_is) at c.advance.ensures.advanced in
    rw (← c.self.view_is) (never_idle _ _ _ c.self.invariant c.in-Some.commit c.in-Some.is
    (g.D.Device.state c.advance.new.self.dev) c.advance.new.self c.advance.result
    (sym c.is_some-writes.ensures ∙ c.if-writes.true) all)

pub returns-else-writes-clause-step : goal.returns-else-writes-clause-step
returns-else-writes-clause-step g c =
    let all = rw (← c.self.view_is) at c.empty.ensures.emptied in
    subst (λ (x : CoreSeen g.row.D.Denot). TakesStep (g.D.Device.state x.dev)
    (g.D.Device.state c.empty.new.self.dev) x c.empty.new.self x.commit (Committed c.empty.result))
    c.self.view_is (ended _ _ _ c.self.invariant c.in-Some.commit c.in-Some.is
    (g.D.Device.state c.empty.new.self.dev) c.empty.new.self c.empty.result
    (sym c.is_some-writes.ensures ∙ c.if-writes.false) all)

pub returns-in-None-clause-comes_back : goal.returns-in-None-clause-comes_back
returns-in-None-clause-comes_back g c =
    rw (← c.self.view_is) (λ idle sound b named k claimed.
    deferred_is_marked _ _ _ c.self.invariant b named sound c.in-None.is k claimed)

pub returns-then-writes-clause-comes_back : goal.returns-then-writes-clause-comes_back
returns-then-writes-clause-comes_back g c = λ idle.
    (let all = rw (← c.self.view_is) at c.advance.ensures.advanced in
    let none = (never_idle _ _ _ c.self.invariant c.in-Some.commit c.in-Some.is
    (g.D.Device.state c.advance.new.self.dev) c.advance.new.self c.advance.result
    (sym c.is_some-writes.ensures ∙ c.if-writes.true) all).0 idle in
    absurd (cc (sym none ∙ c.in-Some.is)))

pub returns-then-writes-clause-rests : goal.returns-then-writes-clause-rests
returns-then-writes-clause-rests g c = λ idle.
    (let all = rw (← c.self.view_is) at c.advance.ensures.advanced in
    let none = (never_idle _ _ _ c.self.invariant c.in-Some.commit c.in-Some.is
    (g.D.Device.state c.advance.new.self.dev) c.advance.new.self c.advance.result
    (sym c.is_some-writes.ensures ∙ c.if-writes.true) all).0 idle in
    absurd (cc (sym none ∙ c.in-Some.is)))
