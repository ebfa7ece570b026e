use Rattle.std.proofs.Common.{length}
use Rattle.r4_extent_among.proofs.leaves.+leaves_in.Given as goal

abbrev pub decreases-leaves_in : goal.decreases-leaves_in
decreases-leaves_in l = length l.ranges.now
