use Rattle.std.proofs.Common.{ap, ◌∙◌}
use Rattle.r4_turns.specs.Turns.{TurnsSeen, answered_one}
use Rattle.r4_core.proofs.Ended.{keeps_ended, may_answer, may_close}
use Rattle.r4_core.proofs.core_state.Core.end.Goals as goal

pub close-requires-clause-begun : goal.close-requires-clause-begun
close-requires-clause-begun g c =
    let sound = rw (← c.self.view_is) at c.requires.sound in
    let stands = rw (← c.self.view_is) at c.requires.stands in
    let room = rw (← c.self.view_is) at c.requires.room in
    (may_close _ _ _ c.self.invariant c.args.script c.args.txn sound room stands).0

pub close-requires-clause-is_open : goal.close-requires-clause-is_open
close-requires-clause-is_open g c =
    let sound = rw (← c.self.view_is) at c.requires.sound in
    let stands = rw (← c.self.view_is) at c.requires.stands in
    let room = rw (← c.self.view_is) at c.requires.room in
    (may_close _ _ _ c.self.invariant c.args.script c.args.txn sound room stands).1

pub answer-requires-clause-some_left : goal.answer-requires-clause-some_left
answer-requires-clause-some_left g c =
    let sound = rw (← c.self.view_is) at c.requires.sound in
    let stands = rw (← c.self.view_is) at c.requires.stands in
    let room = rw (← c.self.view_is) at c.requires.room in
    rw c.leave.ensures (may_answer _ _ _ c.self.invariant c.args.script c.args.txn sound room stands)

pub invariant_of-self : goal.invariant_of-self
invariant_of-self g c =
    let sound = rw (← c.self.view_is) at c.requires.sound in
    let stands = rw (← c.self.view_is) at c.requires.stands in
    let room = rw (← c.self.view_is) at c.requires.room in
    keeps_ended _ _ _ c.self.invariant c.args.script c.args.txn sound room stands c.answer.new.self c.close.new.self
    c.push.new.self (c.answer.ensures ∙ ap (λ (t : TurnsSeen). answered_one t c.args.script.0) c.leave.ensures)
    c.close.ensures c.push.ensures
