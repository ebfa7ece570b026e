use Rattle.std.proofs.Common.{List, arith, get_or, subst, sym, take, ⊎_elim, ◌≤◌, ◌∙◌, ap}
use Rattle.std.specs.Arc.{arc_value}
use Rattle.std.specs.Prelude.{Contains}
use Rattle.std.proofs.lemmas.List.{take_all}
use Rattle.std.proofs.lemmas.List.Elements.{Contains-append_cases}
use Rattle.r4_done.specs.r4_buffer.Seen.{cells_of}
use Rattle.r4_cell.specs.Seen.{CellSeen}
use Rattle.r4_done.specs.r4_search.Keeping.{Shared}
use Rattle.r4_accounting.proofs.CellLists.{cells_more, only_cell}
use Rattle.r4_accounting.proofs.levels.levels_law.Goals as goal

pub loop-cell-preserved : goal.loop-cell-preserved
loop-cell-preserved c = λ x has.
    (let i = c.loop-cell.cell-index in
    let item = get_or c.args.cells.now i c.cell-item.result in
    let low : (arc_value item).level ≤ 8 =
    subst (λ (y : CellSeen). y.level ≤ 8) (c.deref.ensures ∙ ap (λ (y : Shared). arc_value y) c.cell-item.is)
    c.level_law.ensures in
    ⊎_elim (c.loop-cell.invariant x) (λ last. subst (λ (y : CellSeen). y.level ≤ 8) (sym (only_cell (arc_value
    item) x last)) low)
    (Contains-append_cases (cells_of (take i c.args.cells.now)) _ x
    (subst (λ (l : List CellSeen). Contains l x)
    (cells_more c.args.cells.now i c.cell-item.result c.loop-cell-test.true) has)))

pub returns : goal.returns
returns c = λ x has. c.loop-cell.invariant x (subst (λ (l : List Shared). Contains (cells_of l) x)
    (sym (take_all c.loop-cell.cell-index c.args.cells.now (omega (arith, c.loop-cell-test.false)))) has)
