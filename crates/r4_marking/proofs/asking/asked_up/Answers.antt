use Rattle.std.proofs.Common.{◌≡◌, map, ap, ◌∙◌, subst, sym}
use Rattle.std.specs.Arc.{arc_value}
use Rattle.r4_search.specs.r4_cell.Seen.{CellSeen, node_of}
use Rattle.r4_marking.specs.Marks.{HearsLittle, asks_seen, most_for}
use Rattle.r4_marking.proofs.Asked.{at_place, hears_little, noted_next}
use Rattle.r4_marking.proofs.asking.asked_up.Goals as goal

pub note-requires : goal.note-requires
note-requires g c =
    hears_little (g.D.Demands.demand c.args.demands.now) (map (λ x. arc_value x) c.args.met.now) c.requires.0 c.requires.1 c.loop-cell.cell-index c.deref.result.now
    (at_place (λ x. arc_value x) c.args.met.now c.loop-cell.cell-index c.cell-item.result c.deref.result.now c.loop-cell-test.true (c.deref.ensures ∙ ap (λ x. arc_value x) c.cell-item.is)) (asks_seen c.loop-cell.asks.entries) c.loop-cell.invariant

pub loop-cell-preserved : goal.loop-cell-preserved
loop-cell-preserved g c =
    noted_next (g.D.Demands.demand c.args.demands.now) (map (λ x. arc_value x) c.args.met.now) c.requires.0 c.requires.1 c.loop-cell.cell-index c.deref.result.now
    (at_place (λ x. arc_value x) c.args.met.now c.loop-cell.cell-index c.cell-item.result c.deref.result.now c.loop-cell-test.true (c.deref.ensures ∙ ap (λ x. arc_value x) c.cell-item.is)) (asks_seen c.loop-cell.asks.entries) c.loop-cell.invariant (asks_seen c.note.new.asks.entries) c.in_ok-note.ensures
