use Rattle.std.proofs.Common.{◌≡◌, ◌∷◌, [], ◌++◌, List, length, map, take, ap, sym, subst, ◌∙◌, arith}
use Rattle.std.specs.Prelude.{All}
use Rattle.std.specs.Arc.{arc_value}
use Rattle.std.proofs.lemmas.List.{length-map}
use Rattle.std.proofs.lemmas.List.Elements.{All-append, All-cons, All-nil}
use Rattle.std.proofs.lemmas.List.Sorted.{Contains-permutation, IsPermutation-sym}
use Rattle.r4_base.specs.Tree.{Name}
use Rattle.r4_cell.specs.Seen.{CellSeen, node_of}
use Rattle.r4_marking.proofs.Asked.{at_place}
use Rattle.r4_marking.proofs.Marked.{all_taken, taken_more}
use Rattle.r4_judging.specs.Judging.{IsJudged, IsSound, all_names}
use Rattle.r4_judging.proofs.Firsts.{judged_names, judged_of, no_names}
use Rattle.r4_judging.proofs.Parts.{names_more}
use Rattle.r4_judging.proofs.judging.misnamed.Goals as goal

pub loop-cell-init : goal.loop-cell-init
loop-cell-init c = (no_names (map (λ x. arc_value x) c.in_ok-cells.cells.items), All-nil IsSound)

pub loop-cell-preserved : goal.loop-cell-preserved
loop-cell-preserved c =
    let ms : List CellSeen = map (λ x. arc_value x) c.args.met.now in
    let cells : List CellSeen = map (λ x. arc_value x) c.in_ok-cells.cells.items in
    let cell = c.deref.result.now in
    let i = c.loop-cell.cell-index in
    let more = taken_more i ms cell
    (at_place (λ x. arc_value x) c.args.met.now i c.cell-item.result cell c.loop-cell-test.true
    (c.deref.ensures ∙ ap (λ x. arc_value x) c.cell-item.is)) in
    let here = subst (λ xs. IsJudged (node_of cell).names (map (λ x. arc_value x) xs) c.misfit_of.result)
    c.deref-in-loop-cell.ensures.value c.misfit_of.ensures.judged in (
      subst (λ (xs : List CellSeen). IsJudged (all_names xs) cells c.first_of-found.result) (sym more)
          (subst (λ (ns : List Name). IsJudged ns cells c.first_of-found.result) (sym (names_more (take i ms) cell))
          (subst (IsJudged (all_names (take i ms) ++ (node_of cell).names) cells) (sym c.first_of-found.ensures)
          (judged_names (all_names (take i ms)) (node_of cell).names cells c.loop-cell.found c.misfit_of.result
          c.loop-cell.invariant.0 here))),
      subst (All IsSound) (sym more)
          (All-append IsSound (take i ms) (cell ∷ []) c.loop-cell.invariant.1
          (All-cons IsSound cell [] c.misfit_of.ensures.sound (All-nil IsSound))),
    )

pub returns-clause-judged : goal.returns-clause-judged
returns-clause-judged c =
    let ms : List CellSeen = map (λ x. arc_value x) c.args.met.now in
    let cells : List CellSeen = map (λ x. arc_value x) c.in_ok-cells.cells.items in
    let past = c.loop-cell-test.false in
    let long : length ms ≡ length c.args.met.now = length-map c.args.met.now (λ x. arc_value x) in
    let all = all_taken c.loop-cell.cell-index ms (omega (arith, past, long)) in
    let same = c.in_ok-cells.ensures.same in
    judged_of (all_names ms) cells ms c.loop-cell.found
    (λ d at. Contains-permutation cells ms d (IsPermutation-sym ms cells same) at)
    (λ d n at named id. Contains-permutation ms cells d same at)
    (subst (λ (xs : List CellSeen). IsJudged (all_names xs) cells c.loop-cell.found) all c.loop-cell.invariant.0)

pub returns-clause-sound : goal.returns-clause-sound
returns-clause-sound c =
    let ms : List CellSeen = map (λ x. arc_value x) c.args.met.now in
    let past = c.loop-cell-test.false in
    let long : length ms ≡ length c.args.met.now = length-map c.args.met.now (λ x. arc_value x) in
    subst (All IsSound) (all_taken c.loop-cell.cell-index ms (omega (arith, past, long))) c.loop-cell.invariant.1
