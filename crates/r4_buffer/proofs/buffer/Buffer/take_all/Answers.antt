use Rattle.std.proofs.Common.{◌∙◌, ap, get_or, sym}
use Rattle.r4_buffer.specs.Changed.{dropped}
use Rattle.r4_buffer.specs.Seen.{buffered}
use Rattle.r4_buffer.proofs.Turns.{in_turn-take}
use Rattle.r4_buffer.proofs.buffer.Buffer.take_all.Goals as goal

pub loop-id-preserved : goal.loop-id-preserved
loop-id-preserved c = record {
  buffered = λ i. c.take.ensures.buffered i ∙ ap (dropped (get_or c.args.ids.now c.loop-id.id-index 0) i) (c.loop-id.invariant.buffered i)
      ∙ sym (in_turn-take dropped c.args.ids.now c.loop-id.id-index 0 i (buffered c.args.self.now i) c.loop-id-test.true);
  spare = c.take.ensures.spare ∙ c.loop-id.invariant.spare;
}
