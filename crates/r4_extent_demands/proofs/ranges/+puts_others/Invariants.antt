use Rattle.std.proofs.Common.{length}
use Rattle.r4_extent_demands.proofs.ranges.+puts_others.Given as goal

abbrev pub decreases-puts_others : goal.decreases-puts_others
decreases-puts_others l = length l.values.now
