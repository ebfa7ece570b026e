use Rattle.std.proofs.Common.{◌≡◌, ◌++◌, map, take}
use Rattle.r4_leaf.specs.Remade.{item_of}
use Rattle.r4_node40.specs.View.{view_items}
use Rattle.r4_squeeze.proofs.leaves.add_given.Given as goal

abbrev pub invariant-loop-i : goal.invariant-loop-i
invariant-loop-i l = map item_of l.items.items
    ≡ map item_of l.initial.items.items ++ take l.i (view_items l.leaf)
