use Rattle.std.proofs.Common.{◌∙◌, ap, get_or, sym}
use Rattle.r4_base.specs.declared.things.NodeId.{NodeId}
use Rattle.r4_buffer.specs.Changed.{unused}
use Rattle.r4_buffer.specs.Seen.{buffered}
use Rattle.r4_buffer.proofs.Turns.{in_turn-take}
use Rattle.r4_buffer.proofs.buffer.Buffer.unuse.Goals as goal

pub loop-id-preserved : goal.loop-id-preserved
loop-id-preserved c =
    let none : NodeId = record { 0 = 0 } in
    record {
      buffered = λ i. c.unuse_one.ensures.buffered i ∙ ap (unused (get_or c.args.ids.now c.loop-id.id-index none) i) (c.loop-id.invariant.buffered i)
          ∙ sym (in_turn-take unused c.args.ids.now c.loop-id.id-index none i (buffered c.args.self.now i) c.loop-id-test.true);
      spare = c.unuse_one.ensures.spare ∙ c.loop-id.invariant.spare;
    }
