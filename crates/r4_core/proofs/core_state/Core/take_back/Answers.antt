use Rattle.std.proofs.Common.{List, ap, ◌∙◌}
use Rattle.r4_base.specs.declared.things.NodeId.{NodeId}
use Rattle.r4_buffer.specs.Changed.{in_turn, unused}
use Rattle.r4_buffer.specs.Seen.{buffered}
use Rattle.r4_core.proofs.GivingBack.{keeps_taken}
use Rattle.r4_core.proofs.core_state.Core.take_back.Goals as goal

pub invariant_of-self : goal.invariant_of-self
invariant_of-self g c =
    let is = rw (← c.self.view_is) at c.requires.script in
    keeps_taken _ _ _ c.self.invariant c.args.script.0 c.give_back-out.result is c.give_back-out.ensures.task
    c.release.new.self c.release.ensures.gone c.release.ensures.others c.unuse.new.self
    (λ i. c.unuse.ensures.buffered i
    ∙ ap (λ (ids : List NodeId). in_turn unused ids i (buffered c.self.inside.buffer i)) c.as_slice.ensures)
    c.unuse.ensures.spare c.lawful.ensures c.lawful-2.ensures c.give_back-out.new.self c.give_back-out.ensures.turn
