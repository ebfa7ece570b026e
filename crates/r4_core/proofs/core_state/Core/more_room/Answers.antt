use Rattle.r4_core.proofs.Pushed.{keeps_roomier}
use Rattle.r4_core.proofs.core_state.Core.more_room.Goals as goal

pub invariant_of-self-2 : goal.invariant_of-self-2
invariant_of-self-2 g c =
    keeps_roomier _ _ _ c.self.invariant c.in_ok-entries.entries c.room.new.self c.in_ok-room.ensures.ok
