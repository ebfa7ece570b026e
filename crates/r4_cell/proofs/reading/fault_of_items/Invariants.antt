use Rattle.std.proofs.Common.{◌≡◌, false, drop}
use Rattle.r4_base.specs.Cell.{items_in_fault}
use Rattle.r4_base.specs.Key.{rank}
use Rattle.r4_node40.specs.View.{view_items}
use Rattle.r4_cell.proofs.reading.fault_of_items.Given as goal

abbrev pub invariant-loop-i : goal.invariant-loop-i
invariant-loop-i l =
    items_in_fault false l.place.blocks l.place.level (rank l.place.lo) (rank l.place.hi) 0 (view_items l.node)
    ≡ items_in_fault false l.place.blocks l.place.level (rank l.place.lo) (rank l.place.hi) l.i (drop l.i (view_items l.node))
