use Rattle.std.proofs.Common.{◌∙◌, ap, arith, map, subst, sym}
use Rattle.std.specs.Arc.{arc_value}
use Rattle.std.proofs.lemmas.Result.{IfOk-weaker}
use Rattle.r4_base.specs.Key.{rank}
use Rattle.r4_base.specs.Node.{mkfs_id_of}
use Rattle.r4_branch.specs.Pieces.{AreTwigPieces}
use Rattle.r4_branch.specs.Twigs.{PacksTwigs}
use Rattle.r4_cell.specs.Seen.{CellSeen}
use Rattle.r4_patch.specs.Joining.{ids_of}
use Rattle.r4_squeeze.proofs.PackedLeft.{long_cells}
use Rattle.r4_squeeze.proofs.TwigSlums.{first_id, first_lo, last_hi}
use Rattle.r4_squeeze.specs.Packing.{cells_filled, numbers}
use Rattle.r4_row_edit.proofs.TwigRows.{filled_few, filled_may_stand, twigs_are}
use Rattle.r4_row_edit.specs.Numbers.{TakesNumbers}
use Rattle.r4_row_edit.proofs.twigs.twigs_with.Goals as goal

pub pack_twigs-requires : goal.pack_twigs-requires
pack_twigs-requires c =
    let (more, both) = c.requires in
    let (g, room) = both in
    let begin = ap rank (c.lo.ensures ∙ ap (λ (x : CellSeen). x.lo) c.deref-2.ensures)
    ∙ first_lo arc_value 2 g.from g.to c.args.row.now c.index-row-0.result c.index-row-0.is g.along g.some in
    (g.to, subst (λ k. AreTwigPieces k g.to c.args.pieces.now) (sym begin) g.pieces)

pub numbers_for-requires : goal.numbers_for-requires
numbers_for-requires c =
    let (more, both) = c.requires in
    let (g, room) = both in
    let begin = ap rank (c.lo.ensures ∙ ap (λ (x : CellSeen). x.lo) c.deref-2.ensures)
    ∙ first_lo arc_value 2 g.from g.to c.args.row.now c.index-row-0.result c.index-row-0.is g.along g.some in
    let few = filled_few (map arc_value c.args.row.now) c.args.pieces.now more g c.in_ok-twigs.twigs.items
    (subst (λ k. PacksTwigs k g.to c.args.pieces.now c.in_ok-twigs.twigs.items) begin
    (c.in_ok-twigs.ensures.packs g.to (subst (λ k. AreTwigPieces k g.to c.args.pieces.now) (sym begin) g.pieces)))
    c.in_ok-filled.filled.items c.in_ok-filled.ensures in
    let many = c.len.ensures in
    let long = c.in_ok-filled.filled.ok in
    let rows = long_cells arc_value c.args.row.now in
    omega (arith, few, many, long, rows, room)

pub numbered-requires-clause-stand : goal.numbered-requires-clause-stand
numbered-requires-clause-stand c =
    let (more, both) = c.requires in
    let (g, room) = both in
    let begin = ap rank (c.lo.ensures ∙ ap (λ (x : CellSeen). x.lo) c.deref-2.ensures)
    ∙ first_lo arc_value 2 g.from g.to c.args.row.now c.index-row-0.result c.index-row-0.is g.along g.some in
    let end = ap rank (c.hi-hi.ensures ∙ ap (λ (x : CellSeen). x.hi) c.deref-3.ensures)
    ∙ last_hi arc_value 2 g.from g.to c.args.row.now c.index-row-row.result c.index-row-row.is g.along g.some in
    filled_may_stand (map arc_value c.args.row.now) c.args.pieces.now more g c.in_ok-twigs.twigs.items
    (subst (λ k. PacksTwigs k g.to c.args.pieces.now c.in_ok-twigs.twigs.items) begin
    (c.in_ok-twigs.ensures.packs g.to (subst (λ k. AreTwigPieces k g.to c.args.pieces.now) (sym begin) g.pieces)))
    c.in_ok-filled.filled.items c.in_ok-filled.ensures (rank c.hi-hi.result) end

pub returns : goal.returns
returns c =
    let (more, both) = c.requires in
    let (g, room) = both in
    let row = map arc_value c.args.row.now in
    let begin = ap rank (c.lo.ensures ∙ ap (λ (x : CellSeen). x.lo) c.deref-2.ensures)
    ∙ first_lo arc_value 2 g.from g.to c.args.row.now c.index-row-0.result c.index-row-0.is g.along g.some in
    let end = ap rank (c.hi-hi.ensures ∙ ap (λ (x : CellSeen). x.hi) c.deref-3.ensures)
    ∙ last_hi arc_value 2 g.from g.to c.args.row.now c.index-row-row.result c.index-row-row.is g.along g.some in
    let packs = subst (λ k. PacksTwigs k g.to c.args.pieces.now c.in_ok-twigs.twigs.items) begin
    (c.in_ok-twigs.ensures.packs g.to (subst (λ k. AreTwigPieces k g.to c.args.pieces.now) (sym begin) g.pieces)) in
    let block = c.get32-mkfs_id.ensures
    ∙ ap mkfs_id_of (c.bytes.ensures.value ∙ (c.block.ensures ∙ ap (λ (x : CellSeen). x.block) c.deref.ensures)) in
    let first = first_id arc_value 2 g.from g.to c.args.row.now c.index-row-0.result c.index-row-0.is g.along g.some in
    IfOk-weaker c.numbered.result _ _ (λ v is. twigs_are row c.args.pieces.now more g c.in_ok-twigs.twigs.items packs
    c.in_ok-filled.filled.items c.in_ok-filled.ensures c.get32-mkfs_id.result c.in_ok-twigs.ensures.few
    c.in_ok-twigs.ensures.id (arc_value c.index-row-0.result).block block (block ∙ first) c.args.fresh.now
    c.numbers_for.new.fresh (numbers c.in_ok-ids.ids.items)
    (subst (λ k. TakesNumbers (ids_of row) k c.args.fresh.now c.numbers_for.new.fresh (numbers c.in_ok-ids.ids.items))
    (let long = c.in_ok-filled.filled.ok in let many = c.len.ensures in omega (arith, long, many)) c.in_ok-ids.ensures)
    c.lo.result c.hi-hi.result begin end (map arc_value v.items)
    (is ∙ ap (λ ns. cells_filled 2 ns c.hi-hi.result c.in_ok-filled.filled.items) (ap numbers c.as_slice.ensures.value)))
    c.numbered.ensures
