use Rattle.std.proofs.Common.{◌≡◌, ◌∙◌, ◌∷◌, ◌++◌, ◌+◌, [], ap, arith, map, subst, suc, sym}
use Rattle.std.specs.Prelude.{IfSome}
use Rattle.std.specs.Arc.{arc_value}
use Rattle.r4_squeeze.proofs.PackedLeft.{long_cells}
use Rattle.r4_row_gather.proofs.Risen.{one_cell, one_more_above}
use Rattle.r4_row_gather.specs.Rising.{AreRowsOver, IsRowAbove}
use Rattle.r4_row_gather.proofs.rising.+rows_from.Goals as goal

pub returns-then-low-eq1 : goal.returns-then-low-eq1
returns-then-low-eq1 t c =
    let cells = map arc_value c.args.cells.now in
    let low = map arc_value c.args.low.now in
    let long = long_cells arc_value c.args.low.now in
    let one = c.if-low-eq1.true in
    subst (AreRowsOver cells c.args.level low) (sym c.new.ensures.items)
    (one_cell cells c.args.level low (omega (arith, long, one)) c.requires.beside)

pub returns : goal.returns
returns t c =
    let cells = map arc_value c.args.cells.now in
    let low = map arc_value c.args.low.now in
    let above = subst (λ o. IfSome o (IsRowAbove cells c.args.level low)) c.in-Some.is c.in_ok-row.ensures in
    let over = subst (λ o. IfSome o (λ v. AreRowsOver cells (c.args.level + 1) (map arc_value c.as_slice.result.now) v.items))
    c.in-Some-2.is c.in_ok-above.ensures in
    let next : c.args.level + 1 ≡ suc c.args.level = omega arith in
    subst (AreRowsOver cells c.args.level low)
    (sym (c.in_ok-append.ensures.items
    ∙ ap (λ xs. xs ++ c.in-Some-2.above.items) (c.in_ok-push.ensures.items
    ∙ ap (λ xs. xs ++ c.in-Some.row ∷ []) c.new-rows.ensures.items)))
    (one_more_above cells c.args.level low c.in-Some.row c.in-Some-2.above.items above
    (subst (λ l. AreRowsOver cells l c.in-Some.row c.in-Some-2.above.items) next
    (subst (λ row. AreRowsOver cells (c.args.level + 1) row c.in-Some-2.above.items) c.as_slice.ensures over)))
