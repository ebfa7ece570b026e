use Rattle.std.proofs.Common.{ap, ◌∙◌}
use Rattle.r4_turns.specs.Turns.{TurnsSeen, answered_at}
use Rattle.r4_core.proofs.Replied.{keeps_refused, now_answered}
use Rattle.r4_core.proofs.core_state.Core.refuse.Goals as goal

pub invariant_of-self : goal.invariant_of-self
invariant_of-self g c =
    let sound = rw (← c.self.view_is) at c.requires.sound in
    let can = rw (← c.self.view_is) at c.requires.refusable in
    let room = rw (← c.self.view_is) at c.requires.room in
    keeps_refused _ _ _ c.self.invariant c.args.script c.args.txn c.args.reply sound can room c.answer.new.self
    c.answered-index.result c.push.new.self c.answer.ensures
    (c.answered-index.ensures.value ∙ ap (λ (t : TurnsSeen). answered_at t c.args.script.0) c.answer.ensures
    ∙ now_answered c.self.inside.turns c.args.script.0 can.stands.is_script) c.push.ensures
