use Rattle.r4_twig.specs.View.{view_units}
use Rattle.r4_units.proofs.ExtentUnits.{IsLeft}
use Rattle.r4_units.proofs.extent.unit_at.Given as goal

abbrev pub invariant-loop-i : goal.invariant-loop-i
invariant-loop-i l = IsLeft (view_units l.extent) l.i l.block l.left
