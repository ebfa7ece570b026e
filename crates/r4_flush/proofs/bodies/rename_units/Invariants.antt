use Rattle.std.proofs.Common.{◌≡◌, length}
use Rattle.std.specs.Ordering.{nat_cmp}
use Rattle.std.specs.BTreeMap.{get}
use Rattle.r4_base.specs.Extents.{units_of}
use Rattle.r4_flush.specs.Anew.{new_name, unit_anew}
use Rattle.r4_flush.proofs.Made.{AreMadeTo}
use Rattle.r4_flush.proofs.bodies.rename_units.Given as goal

abbrev pub invariant-loop-i : goal.invariant-loop-i
invariant-loop-i l =
    AreMadeTo (λ u v. v ≡ unit_anew (new_name (get nat_cmp l.names)) u) l.i (units_of l.fn.body) (units_of l.body)
    × (length l.body ≡ length l.fn.body)
