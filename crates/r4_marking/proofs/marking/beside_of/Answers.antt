use Rattle.std.proofs.Common.{◌≡◌, ◌≤◌, length, map, ap, ◌∙◌, subst, arith, List}
use Rattle.std.specs.Arc.{arc_value}
use Rattle.std.proofs.lemmas.List.{length-map}
use Rattle.r4_search.specs.r4_cell.Seen.{CellSeen}
use Rattle.r4_marking.specs.Marks.{AreBeside}
use Rattle.r4_marking.proofs.Asked.{at_place}
use Rattle.r4_marking.proofs.Besides.{beside_more}
use Rattle.r4_marking.proofs.Marked.{all_taken}
use Rattle.r4_marking.proofs.marking.beside_of.Goals as goal

pub loop-cell-preserved : goal.loop-cell-preserved
loop-cell-preserved g c =
    beside_more (g.D.Demands.demand c.args.demands.now) (map (λ x. arc_value x) c.args.met.now) c.loop-cell.cell-index c.deref.result.now
    (at_place (λ x. arc_value x) c.args.met.now c.loop-cell.cell-index c.cell-item.result c.deref.result.now c.loop-cell-test.true (c.deref.ensures ∙ ap (λ x. arc_value x) c.cell-item.is)) c.loop-cell.beside.items c.loop-cell.invariant _ c.in_ok-add_beside.ensures

pub returns : goal.returns
returns g c =
    let past = c.loop-cell-test.false in
    let long : length (map (λ x. arc_value x) c.args.met.now) ≡ length c.args.met.now = length-map c.args.met.now (λ x. arc_value x) in
    subst (λ (cells : List CellSeen). AreBeside (g.D.Demands.demand c.args.demands.now) cells c.loop-cell.beside.items) (all_taken c.loop-cell.cell-index (map (λ x. arc_value x) c.args.met.now) (omega (arith, past, long))) c.loop-cell.invariant
