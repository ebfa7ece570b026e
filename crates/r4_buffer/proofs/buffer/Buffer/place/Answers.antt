use Rattle.std.proofs.Common.{◌∙◌, [], ◌∷◌, ap, sym, arith, length-append}
use Rattle.std.specs.Arc.{arc_value}
use Rattle.std.proofs.lemmas.Iterator.Adapters.{YieldsList-from_vec}
use Rattle.std.proofs.lemmas.Iterator.Consumers.{YieldsList-turn}
use Rattle.r4_buffer.specs.Changed.{placed}
use Rattle.r4_search.specs.Keeping.{Shared}
use Rattle.r4_buffer.specs.Seen.{buffered}
use Rattle.r4_buffer.proofs.Turns.{in_turn-map_push}
use Rattle.r4_buffer.proofs.buffer.Buffer.place.Goals as goal

pub place_one-requires : goal.place_one-requires
place_one-requires c =
    let gives = c.into_iter-cell-iterator.ensures.into_iter_gives in
    let t = YieldsList-turn (YieldsList-from_vec c.args.new.items gives.0 (gives.1 ∙ c.args.new.ok.0)) c.loop-cell.yielded _ c.loop-cell.yielded_by _ c.next.new.self c.in-Some.cell c.in-Some.is c.next.ensures.steps in
    omega (arith, t.0, c.loop-cell.invariant.spare, c.requires)

pub loop-cell-preserved : goal.loop-cell-preserved
loop-cell-preserved c = record {
  buffered = λ i. c.place_one.ensures.buffered i ∙ ap (placed (arc_value c.in-Some.cell) i) (c.loop-cell.invariant.buffered i)
      ∙ sym (in_turn-map_push placed (λ (x : Shared). arc_value x) c.loop-cell.yielded c.in-Some.cell i (buffered c.args.self.now i));
  spare = omega (arith, c.place_one.ensures.spare, c.loop-cell.invariant.spare, length-append c.loop-cell.yielded (c.in-Some.cell ∷ []));
}
