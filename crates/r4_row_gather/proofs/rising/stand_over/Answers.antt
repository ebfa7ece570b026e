use Rattle.std.proofs.Common.{◌≡◌, ◌∙◌, ap, drop, map, subst, sym, take}
use Rattle.std.specs.Arc.{arc_value}
use Rattle.std.proofs.lemmas.List.{drop-map, take-append-drop}
use Rattle.r4_base.specs.Key.{rank}
use Rattle.r4_work.specs.r4_cell.Seen.{CellSeen}
use Rattle.r4_work.specs.r4_path.Sharing.{items_of_cells}
use Rattle.r4_squeeze.proofs.TwigSlums.{last_hi}
use Rattle.r4_squeeze.specs.Items.{item_meant, items_meant}
use Rattle.r4_row_gather.proofs.Risen.{stands_over}
use Rattle.r4_row_gather.specs.Rising.{PointFirst}
use Rattle.r4_row_gather.proofs.rising.stand_over.Goals as goal

pub returns : goal.returns
returns c all l m =
    let low = map arc_value c.args.low.now in
    let row = map arc_value c.args.row.now in
    let at = c.place_in-at.result in
    let hi : rank c.hi.result ≡ m.above.hi = ap rank (c.hi.ensures ∙ ap (λ (x : CellSeen). x.hi) c.deref-2.ensures)
    ∙ last_hi arc_value _ m.above.lo m.above.hi c.args.row.now c.index-row-row.result c.index-row-row.is m.above.along
    m.above.some in
    let end : rank c.hi-2.result ≡ m.below.hi = ap rank (c.hi-2.ensures ∙ ap (λ (x : CellSeen). x.hi) c.deref-3.ensures)
    ∙ last_hi arc_value l m.below.lo m.below.hi c.args.low.now c.index-low-low.result c.index-low-low.is m.below.along
    m.below.some in
    let behind : items_meant c.split_at.result.1.now ≡ drop at (items_of_cells row) =
    ap items_meant (c.split_at.ensures.back ∙ ap (drop at) c.as_slice-2.ensures.value)
    ∙ (sym (drop-map item_meant at c.in_ok-items.items.items) ∙ ap (drop at) c.in_ok-items.ensures.items) in
    stands_over l low row m c.in_ok-items.ensures.sound (take at (items_of_cells row)) (drop at (items_of_cells row))
    (sym (take-append-drop at (items_of_cells row)))
    (subst (λ k. PointFirst k m.below.hi (drop at (items_of_cells row)) low) hi
    (subst (λ k. PointFirst (rank c.hi.result) k (drop at (items_of_cells row)) low) end
    (subst (λ xs. PointFirst (rank c.hi.result) (rank c.hi-2.result) xs low) behind (c.point_to.ensures all))))
