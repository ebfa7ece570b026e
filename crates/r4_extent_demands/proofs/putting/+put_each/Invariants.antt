use Rattle.std.proofs.Common.{length}
use Rattle.r4_extent_demands.proofs.putting.+put_each.Given as goal

abbrev pub decreases-put_each : goal.decreases-put_each
decreases-put_each l = length l.ranges.now
