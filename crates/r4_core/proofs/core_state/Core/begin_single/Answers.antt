use Rattle.r4_core.proofs.Begun.{keeps_alone_by}
use Rattle.r4_core.proofs.core_state.Core.begin_single.Goals as goal

pub invariant_of-self-2 : goal.invariant_of-self-2
invariant_of-self-2 g c =
    let sound = rw (← c.self.view_is) at c.requires.sound in
    let alone = rw (← c.self.view_is) at c.requires.alone in
    let room = rw (← c.self.view_is) at c.requires.room in
    let new = c.in_ok-txn.ensures in
    keeps_alone_by _ _ _ c.self.invariant c.args.script c.in_ok-txn.txn sound alone room c.begin.new.self
    (record { txns = new.txns; atoms = new.atoms }) new.number new.owners new.spare c.lawful.ensures.owners
    (λ t is. (c.lawful.ensures.atoms t is).0) c.enter.new.self c.push.new.self c.enter.ensures c.push.ensures
