use Rattle.std.proofs.Common.{ap, ◌∙◌}
use Rattle.std.specs.Arc.{arc_value}
use Rattle.std.specs.Ordering.{nat_cmp}
use Rattle.std.specs.BTreeMap.{get}
use Rattle.r4_flush.specs.Anew.{new_name}
use Rattle.r4_flush.specs.Prepared.{WasCell}
use Rattle.r4_flush.proofs.Made.{made_next}
use Rattle.r4_flush.proofs.cells.rename_cells.Goals as goal

pub loop-cell-preserved : goal.loop-cell-preserved
loop-cell-preserved c = made_next (WasCell (new_name (get nat_cmp c.args.names.now))) (λ x. arc_value x) c.args.cells.now
    c.loop-cell.renamed.items c.push.new.self.items c.loop-cell.cell-index c.cell-item.result
    (record { was = c.id-was.result; cell = c.in_ok-cell.cell }) c.loop-cell.invariant c.loop-cell-test.true
    c.cell-item.is
    (record { was = c.id-was.ensures ∙ ap (λ x. x.id) c.deref.ensures; cell = c.in_ok-cell.ensures })
    c.in_ok-push.ensures.items
