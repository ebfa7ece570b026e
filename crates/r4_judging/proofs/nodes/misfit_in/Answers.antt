use Rattle.std.proofs.Common.{◌+◌, List, map, drop, length, ap, sym, subst, arith}
use Rattle.std.specs.Arc.{arc_value}
use Rattle.r4_base.specs.Cell.{item_names, names_in, next_key}
use Rattle.r4_base.specs.Key.{rank}
use Rattle.r4_base.specs.Node.{Item, items_of}
use Rattle.r4_base.specs.Tree.{Name}
use Rattle.r4_marking.proofs.Children.{names_next}
use Rattle.r4_search.proofs.Places.{item_in}
use Rattle.r4_sight.proofs.r4_units.ExtentUnits.{names_of}
use Rattle.r4_judging.specs.Judging.{IsJudged}
use Rattle.r4_judging.proofs.Walked.{AreJudged, all_judged, more_judged, no_items_left, none_judged}
use Rattle.r4_judging.proofs.nodes.misfit_in.Goals as goal

pub loop-i-init : goal.loop-i-init
loop-i-init c = none_judged (names_in c.args.cell.now.level (rank c.args.cell.now.hi) (items_of c.args.cell.now.block))
    (map (λ x. arc_value x) c.args.cells.now)

pub loop-i-preserved : goal.loop-i-preserved
loop-i-preserved c =
    let cell = c.args.cell.now in
    let items : List Item = items_of cell.block in
    let cells = map (λ x. arc_value x) c.args.cells.now in
    let i = c.loop-i.i in
    let within = c.loop-i-test.true in
    let count = c.len-i-end.ensures in
    let same = ap length c.requires.items in
    let (it, is) = item_in items i (omega (arith, within, count, same)) in
    let all = names_in cell.level (rank cell.hi) items in
    let more = more_judged all (item_names cell.level (next_key (rank cell.hi) (drop (i + 1) items)) it)
    (names_in cell.level (rank cell.hi) (drop i items)) (names_in cell.level (rank cell.hi) (drop (i + 1) items))
    cells c.loop-i.found c.misfit_at.result
    (names_next cell.level (rank cell.hi) items i it is) c.loop-i.invariant (c.misfit_at.ensures it is) in
    subst (AreJudged all (names_in cell.level (rank cell.hi) (drop (i + 1) items)) cells)
    (sym c.first_of-found.ensures) more

pub returns : goal.returns
returns c =
    let cell = c.args.cell.now in
    let items : List Item = items_of cell.block in
    let cells = map (λ x. arc_value x) c.args.cells.now in
    let past = c.loop-i-test.false in
    let count = c.len-i-end.ensures in
    let same = ap length c.requires.items in
    let two = c.requires.branch in
    subst (λ (ns : List Name). IsJudged ns cells c.loop-i.found)
    (sym (names_of cell.level (rank cell.lo) (rank cell.hi) cell.block (omega (arith, two))))
    (all_judged (names_in cell.level (rank cell.hi) items) (names_in cell.level (rank cell.hi) (drop c.loop-i.i items))
    cells c.loop-i.found
    (no_items_left cell.level (rank cell.hi) c.loop-i.i items (omega (arith, past, count, same))) c.loop-i.invariant)
