use Rattle.std.proofs.Common.{◌≡◌, []}
use Rattle.r4_figure_tests.proofs.figures.charge_all.Given as goal

abbrev pub invariant-loop-atom : goal.invariant-loop-atom
invariant-loop-atom l = l.space.sealed ≡ []
