use Rattle.r4_core.proofs.Replied.{keeps_acked, may_ack}
use Rattle.r4_core.proofs.core_state.Core.acknowledge.Goals as goal

pub push-requires : goal.push-requires
push-requires g c =
    let sound = rw (← c.self.view_is) at c.requires.sound in
    let stands = rw (← c.self.view_is) at c.requires.stands in
    (may_ack _ _ _ c.self.invariant c.args.script c.args.txn sound stands).1

pub invariant_of-self : goal.invariant_of-self
invariant_of-self g c =
    let sound = rw (← c.self.view_is) at c.requires.sound in
    let stands = rw (← c.self.view_is) at c.requires.stands in
    let last = rw (← c.self.view_is) at c.requires.last in
    let committed = rw (← c.self.view_is) at c.requires.committed in
    keeps_acked _ _ _ c.self.invariant c.args.script c.args.txn sound stands last committed c.answer.new.self
    c.clock-clock.result c.push.new.self c.answer.ensures c.clock-clock.ensures c.push.ensures
