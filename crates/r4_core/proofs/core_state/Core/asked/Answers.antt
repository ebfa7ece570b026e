use Rattle.r4_ready.proofs.Asking.{can_ask}
use Rattle.r4_ready.proofs.KeepsRead.{keeps_read}
use Rattle.r4_core.proofs.core_state.Core.asked.Goals as goal

pub ask-requires-clause-can : goal.ask-requires-clause-can
ask-requires-clause-can g c κs within =
    let sound = rw (← c.self.view_is) at c.requires.sound in
    let can = can_ask _ _ _ c.self.invariant sound in
    record { within = can.within; readable = can.readable; height = can.height; stands = can.stands }

pub invariant_of-self : goal.invariant_of-self
invariant_of-self g c =
    keeps_read _ _ c.ask.ensures.device.goes c.ask.ensures.device.idle _ _ c.self.invariant c.ask.new.dev
