use Rattle.std.proofs.Common.{◌≡◌, ◌++◌, map, take}
use Rattle.r4_cde.specs.Shown.{view_entries}
use Rattle.r4_check_objects.specs.Held.{held_entry}
use Rattle.r4_check_gather.proofs.gather.gather_entries.Given as goal

abbrev pub invariant-loop-i : goal.invariant-loop-i
invariant-loop-i l = l.found.items ≡ l.fn.found.items ++ map (held_entry l.block) (take l.i (view_entries l.entries))
