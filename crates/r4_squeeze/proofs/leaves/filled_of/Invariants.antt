use Rattle.std.proofs.Common.{◌≡◌, map}
use Rattle.r4_squeeze.specs.Packing.{filled_leaf}
use Rattle.r4_squeeze.proofs.leaves.filled_of.Given as goal

abbrev pub invariant-loop-lo : goal.invariant-loop-lo
invariant-loop-lo l = l.filled.items ≡ map filled_leaf l.yielded
