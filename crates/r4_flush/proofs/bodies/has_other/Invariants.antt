use Rattle.std.proofs.Common.{◌≡◌, ◌<◌, ℕ}
use Rattle.std.specs.Ordering.{nat_cmp}
use Rattle.std.specs.BTreeMap.{get}
use Rattle.r4_base.specs.Extents.{unit_at}
use Rattle.r4_flush.specs.Anew.{new_name, unit_anew}
use Rattle.r4_flush.proofs.bodies.has_other.Given as goal

abbrev pub invariant-loop-i : goal.invariant-loop-i
invariant-loop-i l = (k : ℕ) → k < l.i → unit_anew (new_name (get nat_cmp l.names)) (unit_at l.body k) ≡ unit_at l.body k
