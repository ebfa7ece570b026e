use Rattle.std.proofs.Common.{◌≡◌, ◌++◌, drop, take}
use Rattle.r4_node40.specs.View.{view_items}
use Rattle.r4_squeeze.specs.Items.{items_meant}
use Rattle.r4_squeeze.proofs.items.add_items.Given as goal

abbrev pub invariant-loop-i : goal.invariant-loop-i
invariant-loop-i l = items_meant l.items.items
    ≡ items_meant l.initial.items.items ++ take l.i (drop l.from (view_items l.node))
