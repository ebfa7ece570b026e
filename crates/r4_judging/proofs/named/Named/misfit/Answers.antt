use Rattle.std.proofs.Common.{◌≡◌, ◌∷◌, [], ◌++◌, List, length, map, take, ap, sym, subst, ◌∙◌, arith}
use Rattle.std.specs.Prelude.{Some, slice_get}
use Rattle.std.specs.Arc.{arc_value}
use Rattle.std.proofs.lemmas.List.{length-map}
use Rattle.r4_cell.specs.Seen.{CellSeen}
use Rattle.r4_marking.proofs.Asked.{at_place, got}
use Rattle.r4_marking.proofs.Marked.{all_taken, taken_more}
use Rattle.r4_judging.specs.Judging.{IsJudged, names_meant}
use Rattle.r4_judging.proofs.Firsts.{judged_cells, judged_of, no_cells}
use Rattle.r4_judging.proofs.Runs.{meant_within}
use Rattle.r4_judging.proofs.named.Named.misfit.Goals as goal
use Rattle.r4_judging.proofs.named.Named.misfit.Goals.{After-deref}

cell_near : (c : After-deref) → slice_get (map (λ x. arc_value x) c.numbered-near.result.now) c.loop-cell.cell-index
    ≡ Some c.deref.result.now
cell_near c = at_place (λ x. arc_value x) c.numbered-near.result.now c.loop-cell.cell-index c.cell-item.result
    c.deref.result.now c.loop-cell-test.true (c.deref.ensures ∙ ap (λ x. arc_value x) c.cell-item.is)

pub misfit_at-requires-clause-from : goal.misfit_at-requires-clause-from
misfit_at-requires-clause-from c =
    let (among, from, below) = (c.numbered-near.ensures c.deref.result.now).0
    (got (map (λ x. arc_value x) c.numbered-near.result.now) c.loop-cell.cell-index c.deref.result.now
    (cell_near c)) in
    let first = c.from.ensures in
    omega (arith, from, first)

pub misfit_at-requires-clause-below : goal.misfit_at-requires-clause-below
misfit_at-requires-clause-below c =
    let (among, from, below) = (c.numbered-near.ensures c.deref.result.now).0
    (got (map (λ x. arc_value x) c.numbered-near.result.now) c.loop-cell.cell-index c.deref.result.now
    (cell_near c)) in
    let first = c.from.ensures in
    let many = c.count.ensures in
    omega (arith, below, first, many)

pub loop-cell-init : goal.loop-cell-init
loop-cell-init c = no_cells (names_meant c.args.self.now)

pub loop-cell-preserved : goal.loop-cell-preserved
loop-cell-preserved c =
    let near : List CellSeen = map (λ x. arc_value x) c.numbered-near.result.now in
    let ns = names_meant c.args.self.now in
    let more = taken_more c.loop-cell.cell-index near c.deref.result.now
    (at_place (λ x. arc_value x) c.numbered-near.result.now c.loop-cell.cell-index c.cell-item.result c.deref.result.now
    c.loop-cell-test.true (c.deref.ensures ∙ ap (λ x. arc_value x) c.cell-item.is)) in
    subst (λ (xs : List CellSeen). IsJudged ns xs c.first_of-found.result) (sym more)
    (subst (IsJudged ns (take c.loop-cell.cell-index near ++ c.deref.result.now ∷ [])) (sym c.first_of-found.ensures)
    (judged_cells ns (take c.loop-cell.cell-index near) (c.deref.result.now ∷ []) c.loop-cell.found c.misfit_at.result
    c.loop-cell.invariant c.misfit_at.ensures))

pub returns : goal.returns
returns c =
    let near : List CellSeen = map (λ x. arc_value x) c.numbered-near.result.now in
    let past = c.loop-cell-test.false in
    let long : length near ≡ length c.numbered-near.result.now = length-map c.numbered-near.result.now
    (λ x. arc_value x) in
    let all = subst (λ (xs : List CellSeen). IsJudged (names_meant c.args.self.now) xs c.loop-cell.found)
    (all_taken c.loop-cell.cell-index near (omega (arith, past, long))) c.loop-cell.invariant in
    let first = c.from.ensures in
    let many = c.count.ensures in
    judged_of (names_meant c.args.self.now) near (map (λ x. arc_value x) c.args.cells.now) c.loop-cell.found
    (λ d at. ((c.numbered-near.ensures d).0 at).0)
    (λ d n at named id.
    let (from, below) = meant_within c.args.self.now n named in
    (c.numbered-near.ensures d).1 (at, omega (arith, from, id, first), omega (arith, below, id, first, many))) all
