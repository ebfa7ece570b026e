use Rattle.std.proofs.Common.{length}
use Rattle.r4_leaf_demands.proofs.bodies.+intervals_have.Given as goal

abbrev pub decreases-intervals_have : goal.decreases-intervals_have
decreases-intervals_have l = length l.intervals.now
