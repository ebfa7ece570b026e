use Rattle.std.proofs.Common.{take}
use Rattle.r4_check_objects.specs.Known.{AreTotalsOf}
use Rattle.r4_check_objects.proofs.totals.totals_of.Given as goal

abbrev pub invariant-loop-held : goal.invariant-loop-held
invariant-loop-held l = AreTotalsOf l.found (take l.held-index l.found) l.totals
