use Rattle.std.proofs.Common.{◌≡◌, map, take}
use Rattle.std.specs.Prelude.{Contains}
use Rattle.std.specs.Arc.{arc_value}
use Rattle.r4_cell.specs.Seen.{CellSeen}
use Rattle.r4_leaf.specs.Remade.{item_of}
use Rattle.r4_path.specs.Sharing.{IsSound, items_of_cells}
use Rattle.r4_squeeze.proofs.leaves.items_behind.Given as goal

abbrev pub invariant-loop-leaf : goal.invariant-loop-leaf
invariant-loop-leaf l = (map item_of l.items.items
    ≡ items_of_cells (map (λ c. arc_value c) (take l.leaf-index l.leaves)))
    × ((x : CellSeen) → Contains (map (λ c. arc_value c) (take l.leaf-index l.leaves)) x → IsSound x)
