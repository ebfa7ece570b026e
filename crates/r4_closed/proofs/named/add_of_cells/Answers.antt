use Rattle.std.specs.Arc.{arc_value}
use Rattle.r4_closed.proofs.Cells.{all_named, all_stand, named_next, stand_next}
use Rattle.r4_closed.proofs.named.add_of_cells.Goals as goal

pub loop-cell-preserved : goal.loop-cell-preserved
loop-cell-preserved c = record {
  stand = stand_next (λ a. arc_value a) c.args.cells.now c.loop-cell.cell-index c.cell-item.result c.deref.result.now
      c.loop-cell-test.true c.cell-item.is c.deref.ensures c.loop-cell.invariant.stand
      (c.in_ok-add_of_cell.ensures.stands c.if-not-branch.false);
  named = named_next (λ a. arc_value a) c.args.cells.now c.loop-cell.cell-index c.cell-item.result c.deref.result.now
      c.args.named.now.items c.loop-cell.named.items c.add_of_cell.new.named.items
      c.loop-cell-test.true c.cell-item.is c.deref.ensures c.loop-cell.invariant.named
      (c.in_ok-add_of_cell.ensures.named c.if-not-branch.false);
}

pub returns-clause-stand : goal.returns-clause-stand
returns-clause-stand c = λ yes. all_stand (λ a. arc_value a) c.args.cells.now c.loop-cell.cell-index
    c.loop-cell-test.false c.loop-cell.invariant.stand

pub returns-clause-named : goal.returns-clause-named
returns-clause-named c = λ yes. all_named (λ a. arc_value a) c.args.cells.now c.loop-cell.cell-index
    c.args.named.now.items c.loop-cell.named.items c.loop-cell-test.false c.loop-cell.invariant.named
