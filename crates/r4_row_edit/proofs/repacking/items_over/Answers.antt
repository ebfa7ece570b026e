use Rattle.std.proofs.Common.{◌∙◌, ◌++◌, ap, drop, length, map, sym, take}
use Rattle.std.specs.Arc.{arc_value}
use Rattle.std.specs.Vec.Iter.{into_iter_items}
use Rattle.r4_base.specs.Key.{rank}
use Rattle.r4_cell.specs.Seen.{CellSeen}
use Rattle.r4_squeeze.proofs.PackedLeft.{long_cells}
use Rattle.r4_squeeze.proofs.TwigSlums.{first_lo}
use Rattle.r4_squeeze.specs.Items.{items_meant}
use Rattle.r4_row_edit.proofs.Spliced.{place_over, spliced}
use Rattle.r4_row_edit.proofs.repacking.items_over.Goals as goal

pub returns-clause-items : goal.returns-clause-items
returns-clause-items c = λ l s.
    let gone = map arc_value c.args.gone.now in
    let row = map arc_value c.args.row.now in
    let same = c.in_ok-had.ensures.items in
    let at = place_over l gone row s c.in_ok-had.ensures.sound c.place_in-at.result (rank c.lo.result)
    (items_meant c.as_slice.result.now) (ap items_meant c.as_slice.ensures.value ∙ same)
    (ap rank (c.lo.ensures ∙ ap (λ (x : CellSeen). x.lo) c.deref.ensures)
    ∙ first_lo arc_value l s.begin s.end c.args.gone.now c.index-gone-0.result c.index-gone-0.is s.below s.one)
    c.place_in-at.ensures.below c.place_in-at.ensures.at in
    spliced l gone row s c.in_ok-had.ensures.sound arc_value c.place_in-at.result (length c.args.gone.now)
    c.in_ok-had.had.items c.move_some.new.to.items c.add_pointers.new.items.items c.move_all.new.to.items
    (into_iter_items c.move_some.new.from) (into_iter_items c.move_some-2.new.from) c.args.come.now same at
    (sym (long_cells arc_value c.args.gone.now))
    (c.in_ok-move_some.ensures.moved
    ∙ (ap (λ xs. xs ++ take c.place_in-at.result (into_iter_items c.into_iter-rest.result)) c.new-items.ensures.items
    ∙ ap (take c.place_in-at.result) c.into_iter-rest.ensures.rest))
    (c.in_ok-move_some.ensures.left ∙ ap (drop c.place_in-at.result) c.into_iter-rest.ensures.rest)
    c.in_ok-add_pointers.ensures c.in_ok-move_some-2.ensures.left c.in_ok-move_all.ensures
