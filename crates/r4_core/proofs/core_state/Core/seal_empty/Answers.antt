use Rattle.r4_core.proofs.SealedEmpty.{keeps_sealed_empty}
use Rattle.r4_core.proofs.core_state.Core.seal_empty.Goals as goal

pub invariant_of-self : goal.invariant_of-self
invariant_of-self g c =
    let sound = rw (← c.self.view_is) at c.requires.sound in
    let rest = rw (← c.self.view_is) at c.requires.rest in
    let unsealed = rw (← c.self.view_is) at c.requires.unsealed in
    let closed = rw (← c.self.view_is) at c.requires.closed in
    let none = rw (← c.self.view_is) at c.requires.none in
    let room = rw (← c.self.view_is) at c.requires.room in
    keeps_sealed_empty _ _ _ c.args.atom c.self.invariant sound rest unsealed closed none room
    (λ i n is. (c.lawful.ensures.owners i n is).0.begun) c.seal.new.self c.args.nodes c.push.new.self
    c.in-Ok.ensures.sealed c.requires.nodes c.push.ensures
