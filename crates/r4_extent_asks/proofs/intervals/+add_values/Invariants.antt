use Rattle.std.proofs.Common.{length}
use Rattle.r4_extent_asks.proofs.intervals.+add_values.Given as goal

abbrev pub decreases-add_values : goal.decreases-add_values
decreases-add_values l = length l.values.now
