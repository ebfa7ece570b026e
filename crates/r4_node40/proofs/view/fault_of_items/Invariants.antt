use Rattle.std.proofs.Common.{◌≡◌, ◌-◌}
use Rattle.r4_base.specs.Node.{items_fault}
use Rattle.r4_node40.proofs.view.fault_of_items.Given as goal

abbrev pub invariant-loop-i : goal.invariant-loop-i
invariant-loop-i l = items_fault (l.count - l.i) l.i l.b ≡ items_fault l.count 0 l.b
