use Rattle.std.proofs.Common.{ap, ◌∙◌}
use Rattle.r4_turns.specs.Turns.{TurnsSeen, answered_at, left}
use Rattle.r4_trace.specs.Kept.{Told}
use Rattle.r4_trace.specs.declared.entry.Entry.TheVariants.{Ended}
use Rattle.r4_ready.specs.r4_kept.Steps.{with_entry}
use Rattle.r4_ready.proofs.r4_taking.RefusedSingle.{keeps_single_by, may_close}
use Rattle.r4_core.proofs.Replied.{now_answered}
use Rattle.r4_core.proofs.core_state.Core.refuse_single.Goals as goal

pub close-requires-clause-begun : goal.close-requires-clause-begun
close-requires-clause-begun g c =
    let sound = rw (← c.self.view_is) at c.requires.sound in
    let stands = rw (← c.self.view_is) at c.requires.stands in
    let room = rw (← c.self.view_is) at c.requires.room in
    (may_close _ _ _ c.self.invariant c.args.script c.args.txn c.args.reply sound stands room).0

pub close-requires-clause-is_open : goal.close-requires-clause-is_open
close-requires-clause-is_open g c =
    let sound = rw (← c.self.view_is) at c.requires.sound in
    let stands = rw (← c.self.view_is) at c.requires.stands in
    let room = rw (← c.self.view_is) at c.requires.room in
    (may_close _ _ _ c.self.invariant c.args.script c.args.txn c.args.reply sound stands room).1

pub invariant_of-self : goal.invariant_of-self
invariant_of-self g c =
    let sound = rw (← c.self.view_is) at c.requires.sound in
    let stands = rw (← c.self.view_is) at c.requires.stands in
    let room = rw (← c.self.view_is) at c.requires.room in
    keeps_single_by _ _ _ c.self.invariant c.args.script c.args.txn c.args.reply sound stands room c.leave.new.self
    c.close.new.self c.answered-index.result c.push-2.new.self
    (c.leave.ensures ∙ ap (λ (t : TurnsSeen). left t c.args.script.0) c.answer.ensures) c.close.ensures
    (c.answered-index.ensures.value ∙ ap (λ (t : TurnsSeen). answered_at t c.args.script.0) c.answer.ensures
    ∙ now_answered c.self.inside.turns c.args.script.0 stands.stands.is_script)
    (c.push-2.ensures ∙ ap (λ (t : Told). with_entry t (Ended c.args.txn)) c.push.ensures)
