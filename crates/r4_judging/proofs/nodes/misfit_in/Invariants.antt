use Rattle.std.proofs.Common.{map}
use Rattle.std.specs.Arc.{arc_value}
use Rattle.r4_judging.proofs.Walked.{AreWalked}
use Rattle.r4_judging.proofs.nodes.misfit_in.Given as goal

abbrev pub invariant-loop-i : goal.invariant-loop-i
invariant-loop-i l = AreWalked l.cell l.i (map (λ c. arc_value c) l.cells) l.found
