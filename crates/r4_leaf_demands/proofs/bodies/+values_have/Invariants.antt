use Rattle.std.proofs.Common.{length}
use Rattle.r4_leaf_demands.proofs.bodies.+values_have.Given as goal

abbrev pub decreases-values_have : goal.decreases-values_have
decreases-values_have l = length l.values.now
