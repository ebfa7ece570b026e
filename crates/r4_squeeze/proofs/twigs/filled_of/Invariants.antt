use Rattle.std.proofs.Common.{◌≡◌, map}
use Rattle.r4_squeeze.specs.Packing.{filled_twig}
use Rattle.r4_squeeze.proofs.twigs.filled_of.Given as goal

abbrev pub invariant-loop-lo : goal.invariant-loop-lo
invariant-loop-lo l = l.filled.items ≡ map filled_twig l.yielded
