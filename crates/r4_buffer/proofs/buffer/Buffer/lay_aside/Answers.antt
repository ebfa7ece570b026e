use Rattle.std.proofs.Common.{◌∙◌, ap, get_or, sym}
use Rattle.std.specs.Arc.{arc_value}
use Rattle.r4_search.specs.r4_cell.Seen.{CellSeen}
use Rattle.r4_buffer.specs.Changed.{laid_aside}
use Rattle.r4_search.specs.Keeping.{Shared}
use Rattle.r4_buffer.specs.Seen.{buffered}
use Rattle.r4_buffer.proofs.Turns.{in_turn-map_take}
use Rattle.r4_buffer.proofs.buffer.Buffer.lay_aside.Goals as goal

pub loop-cell-preserved : goal.loop-cell-preserved
loop-cell-preserved c =
    let item = get_or c.args.old.now c.loop-cell.cell-index c.cell-item.result in
    record {
      buffered = λ i. c.lay_one.ensures.buffered i
          ∙ ap (λ (x : CellSeen). laid_aside x i (buffered c.loop-cell.self i)) (c.deref.ensures ∙ ap (λ (x : Shared). arc_value x) c.cell-item.is)
          ∙ ap (laid_aside (arc_value item) i) (c.loop-cell.invariant.buffered i)
          ∙ sym (in_turn-map_take laid_aside (λ (x : Shared). arc_value x) c.args.old.now c.loop-cell.cell-index c.cell-item.result i (buffered c.args.self.now i) c.loop-cell-test.true);
      spare = c.lay_one.ensures.spare ∙ c.loop-cell.invariant.spare;
    }
