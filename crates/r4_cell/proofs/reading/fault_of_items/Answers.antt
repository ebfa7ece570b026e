use Rattle.std.proofs.Common.{arith, sym, ◌∙◌}
use Rattle.r4_base.specs.Key.{rank}
use Rattle.r4_node40.specs.View.{view_items}
use Rattle.r4_cell.proofs.Faults.{items_done}
use Rattle.r4_cell.proofs.reading.fault_of_items.Goals as goal

pub returns : goal.returns
returns c = sym (c.loop-i.invariant ∙ items_done c.args.place.now.blocks c.args.place.now.level (rank c.args.place.now.lo) (rank c.args.place.now.hi) c.loop-i.i (view_items c.args.node.now) (omega (arith, c.loop-i-test.false, c.len-i-end.ensures)))
