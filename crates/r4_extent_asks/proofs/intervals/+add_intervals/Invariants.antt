use Rattle.std.proofs.Common.{length}
use Rattle.r4_extent_asks.proofs.intervals.+add_intervals.Given as goal

abbrev pub decreases-add_intervals : goal.decreases-add_intervals
decreases-add_intervals l = length l.more.now
