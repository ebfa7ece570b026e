use Rattle.r4_core.proofs.Roomier.{has_more}
use Rattle.r4_ready.proofs.KeepsRoom.{keeps_roomier}
use Rattle.r4_core.proofs.core_state.Core.make_room.Goals as goal

pub invariant_of-self : goal.invariant_of-self
invariant_of-self g c =
    let made = c.make_room-made in
    keeps_roomier _ _ _ _ c.self.invariant c.lawful.ensures c.lawful-3.ensures c.lawful-2.ensures
    (has_more _ made.new.trace made.new.atoms made.new.buffer made.new.space made.ensures.entries
    made.ensures.captures made.ensures.places made.ensures.claims)
