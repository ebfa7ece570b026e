use Rattle.std.proofs.Common.{◌≡◌, ◌-◌}
use Rattle.r4_base.specs.Dir.{entries_fault}
use Rattle.r4_cde.proofs.fault.fault_of_entries.Given as goal

abbrev pub invariant-loop-i : goal.invariant-loop-i
invariant-loop-i l = entries_fault l.item (l.count - l.i) l.i l.body ≡ entries_fault l.item l.count 0 l.body
