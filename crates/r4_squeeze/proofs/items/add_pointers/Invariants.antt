use Rattle.std.proofs.Common.{◌≡◌, ◌++◌, map, take}
use Rattle.std.specs.Arc.{arc_value}
use Rattle.r4_path.specs.Nodes.{pointer_item}
use Rattle.r4_squeeze.specs.Items.{items_meant}
use Rattle.r4_squeeze.proofs.items.add_pointers.Given as goal

abbrev pub invariant-loop-cell : goal.invariant-loop-cell
invariant-loop-cell l = items_meant l.items.items
    ≡ items_meant l.initial.items.items
    ++ map (λ c. pointer_item (arc_value c)) (take l.cell-index l.cells)
