use Rattle.std.proofs.Common.{ap, ◌∙◌}
use Rattle.r4_turns.specs.Turns.{TurnsSeen, answered_at}
use Rattle.r4_core.proofs.Replied.{keeps_reopened, now_answered}
use Rattle.r4_core.proofs.core_state.Core.reopen.Goals as goal

pub invariant_of-self : goal.invariant_of-self
invariant_of-self g c =
    let some = rw (← c.self.view_is) at c.requires.failed in
    let is = rw (← c.self.view_is) at c.requires.script in
    let next = rw (← c.self.view_is) at c.requires.next in
    let free = rw (← c.self.view_is) at c.requires.free in
    let room = rw (← c.self.view_is) at c.requires.room in
    keeps_reopened _ _ _ c.self.invariant c.args.script c.args.failed some is free next room c.answer.new.self
    c.answered-index.result c.push.new.self c.answer.ensures
    (c.answered-index.ensures.value ∙ ap (λ (t : TurnsSeen). answered_at t c.args.script.0) c.answer.ensures
    ∙ now_answered c.self.inside.turns c.args.script.0 is) c.push.ensures
