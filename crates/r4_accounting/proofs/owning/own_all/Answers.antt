use Rattle.std.proofs.Common.{List, [], ◌∷◌, ◌∙◌, ap, get_or, subst, sym, take}
use Rattle.std.specs.Arc.{arc_value}
use Rattle.r4_done.specs.r4_buffer.Seen.{cells_of}
use Rattle.r4_cell.specs.Seen.{CellSeen}
use Rattle.r4_done.specs.r4_search.Keeping.{Shared}
use Rattle.r4_accounting.specs.Accounting.{HasOwned}
use Rattle.r4_accounting.proofs.CellLists.{cells_more}
use Rattle.r4_accounting.proofs.OwnedCells.{owned_both}
use Rattle.r4_accounting.proofs.owning.own_all.Goals as goal

pub loop-cell-preserved : goal.loop-cell-preserved
loop-cell-preserved c =
    let item = get_or c.args.cells.now c.loop-cell.cell-index c.cell-item.result in
    subst (λ (l : List CellSeen). HasOwned c.args.atoms.now c.own.new.atoms c.args.atom.0 l)
    (sym (cells_more c.args.cells.now c.loop-cell.cell-index c.cell-item.result c.loop-cell-test.true))
    (owned_both c.args.atoms.now c.loop-cell.atoms c.own.new.atoms c.args.atom.0
    (cells_of (take c.loop-cell.cell-index c.args.cells.now)) (arc_value item ∷ []) c.loop-cell.invariant
    (subst (λ (x : CellSeen). HasOwned c.loop-cell.atoms c.own.new.atoms c.args.atom.0 (x ∷ []))
    (c.deref.ensures ∙ ap (λ (x : Shared). arc_value x) c.cell-item.is) c.own.ensures))
