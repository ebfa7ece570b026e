use Rattle.std.proofs.Common.{ap, ◌∙◌}
use Rattle.r4_turns.specs.Turns.{TurnsSeen, answered_one}
use Rattle.r4_core.proofs.Begun.{keeps_begun_by}
use Rattle.r4_core.proofs.core_state.Core.begin.Goals as goal

pub invariant_of-self-2 : goal.invariant_of-self-2
invariant_of-self-2 g c =
    let sound = rw (← c.self.view_is) at c.requires.sound in
    let stands = rw (← c.self.view_is) at c.requires.stands in
    let room = rw (← c.self.view_is) at c.requires.room in
    let new = c.in_ok-txn.ensures in
    keeps_begun_by _ _ _ c.self.invariant c.args.script c.in_ok-txn.txn sound stands room c.begin.new.self
    (record { txns = new.txns; atoms = new.atoms }) new.number new.owners new.spare c.lawful.ensures.owners
    (λ t is. (c.lawful.ensures.atoms t is).0) c.answer.new.self c.push.new.self
    (c.answer.ensures ∙ ap (λ (t : TurnsSeen). answered_one t c.args.script.0) c.enter.ensures) c.push.ensures
