use Rattle.std.specs.Arc.{arc_value}
use Rattle.r4_work.proofs.Halving.{no_places, one_more_out}
use Rattle.r4_work.proofs.ordered.OrderedCells.take_out_all.Goals as goal

pub loop-cell-init : goal.loop-cell-init
loop-cell-init c = no_places c.args.self.now

pub loop-cell-preserved : goal.loop-cell-preserved
loop-cell-preserved c =
    one_more_out (λ x. arc_value x) c.args.cells.now c.loop-cell.cell-index c.cell-item.result c.deref.result.now
    c.args.self.now c.loop-cell.self c.take_out.new.self c.loop-cell-test.true c.cell-item.is c.deref.ensures
    c.loop-cell.invariant c.take_out.ensures
