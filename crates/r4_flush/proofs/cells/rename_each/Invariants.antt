use Rattle.std.proofs.Common.{◌≡◌}
use Rattle.std.specs.Ordering.{nat_cmp}
use Rattle.std.specs.BTreeMap.{get}
use Rattle.r4_flush.specs.Anew.{new_name}
use Rattle.r4_flush.proofs.Written.{IsSoFar}
use Rattle.r4_node40.specs.Loan.{bytes_of, with_bytes}
use Rattle.r4_flush.proofs.cells.rename_each.Given as goal

abbrev pub invariant-loop-i : goal.invariant-loop-i
invariant-loop-i l = (l.node ≡ with_bytes l.fn.node (bytes_of l.node))
    × IsSoFar (new_name (get nat_cmp l.names)) l.i (bytes_of l.fn.node) (bytes_of l.node)
