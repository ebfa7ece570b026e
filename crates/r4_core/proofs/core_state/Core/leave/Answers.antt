use Rattle.r4_core.proofs.Ended.{keeps_left, may_leave}
use Rattle.r4_core.proofs.core_state.Core.leave.Goals as goal

pub close-requires-clause-begun : goal.close-requires-clause-begun
close-requires-clause-begun g c =
    let sound = rw (← c.self.view_is) at c.requires.sound in
    let stands = rw (← c.self.view_is) at c.requires.stands in
    let room = rw (← c.self.view_is) at c.requires.room in
    (may_leave _ _ _ c.self.invariant c.args.script c.args.txn sound room stands).0

pub close-requires-clause-is_open : goal.close-requires-clause-is_open
close-requires-clause-is_open g c =
    let sound = rw (← c.self.view_is) at c.requires.sound in
    let stands = rw (← c.self.view_is) at c.requires.stands in
    let room = rw (← c.self.view_is) at c.requires.room in
    (may_leave _ _ _ c.self.invariant c.args.script c.args.txn sound room stands).1

pub invariant_of-self : goal.invariant_of-self
invariant_of-self g c =
    let sound = rw (← c.self.view_is) at c.requires.sound in
    let stands = rw (← c.self.view_is) at c.requires.stands in
    let room = rw (← c.self.view_is) at c.requires.room in
    keeps_left _ _ _ c.self.invariant c.args.script c.args.txn sound room stands c.leave.new.self c.close.new.self
    c.push.new.self c.leave.ensures c.close.ensures c.push.ensures
