use Rattle.std.proofs.Common.{◌≡◌, ◌++◌, take}
use Rattle.std.specs.List.{flat_map}
use Rattle.r4_node40.specs.View.{view_items}
use Rattle.r4_check_objects.specs.Held.{held_by}
use Rattle.r4_check_gather.proofs.gather.gather_node.Given as goal

abbrev pub invariant-loop-i : goal.invariant-loop-i
invariant-loop-i l = l.found.items ≡ l.fn.found.items ++ flat_map (held_by l.block) (take l.i (view_items l.node))
