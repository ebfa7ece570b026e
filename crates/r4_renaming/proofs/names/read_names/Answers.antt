use Rattle.std.proofs.Common.{ap, ◌∙◌}
use Rattle.r4_renaming.proofs.Naming.{names_next}
use Rattle.r4_renaming.proofs.names.read_names.Goals as goal

pub loop-cell-preserved : goal.loop-cell-preserved
loop-cell-preserved c =
    names_next c.args.renamed.now c.loop-cell.cell-index c.cell-item.result c.loop-cell-test.true c.cell-item.is
    c.requires c.loop-cell.names c.insert.new.self c.id.result.0 (c.id.ensures ∙ ap (λ x. x.id) c.deref.ensures)
    c.loop-cell.invariant c.in_ok-insert.ensures.updates
