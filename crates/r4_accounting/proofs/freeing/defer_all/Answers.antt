use Rattle.std.proofs.Common.{List, [], ◌∷◌, ◌≤◌, ◌∙◌, ap, get_or, length, subst, sym, take}
use Rattle.std.specs.Arc.{arc_value}
use Rattle.r4_done.specs.r4_buffer.Seen.{cells_of}
use Rattle.r4_cell.specs.Seen.{CellSeen}
use Rattle.r4_done.specs.r4_search.Keeping.{Shared}
use Rattle.r4_accounting.specs.Accounting.{HasDeferred, freed}
use Rattle.r4_accounting.proofs.CellLists.{cells_more}
use Rattle.r4_accounting.proofs.DeferredCells.{deferred_both, room_left}
use Rattle.r4_accounting.proofs.freeing.defer_all.Goals as goal

pub defer_one-requires-clause-room : goal.defer_one-requires-clause-room
defer_one-requires-clause-room c =
    subst (λ (x : CellSeen).
    length (freed c.loop-cell.space (x ∷ []) (cells_of c.args.new.now)) ≤ c.loop-cell.space.spare)
    (sym (c.deref.ensures ∙ ap (λ (x : Shared). arc_value x) c.cell-item.is))
    (room_left c.args.space.now c.loop-cell.space c.args.atom c.args.old.now (cells_of c.args.new.now)
    c.loop-cell.cell-index c.cell-item.result c.loop-cell-test.true c.loop-cell.invariant c.requires.room)

pub loop-cell-preserved : goal.loop-cell-preserved
loop-cell-preserved c =
    let item = get_or c.args.old.now c.loop-cell.cell-index c.cell-item.result in
    let new = cells_of c.args.new.now in
    subst (λ (l : List CellSeen). HasDeferred c.args.space.now c.defer_one.new.space c.args.atom l new)
    (sym (cells_more c.args.old.now c.loop-cell.cell-index c.cell-item.result c.loop-cell-test.true))
    (deferred_both c.args.space.now c.loop-cell.space c.defer_one.new.space c.args.atom
    (cells_of (take c.loop-cell.cell-index c.args.old.now)) (arc_value item ∷ []) new c.loop-cell.invariant
    (subst (λ (x : CellSeen). HasDeferred c.loop-cell.space c.defer_one.new.space c.args.atom (x ∷ []) new)
    (c.deref.ensures ∙ ap (λ (x : Shared). arc_value x) c.cell-item.is) c.defer_one.ensures))
