use Rattle.std.proofs.Common.{length}
use Rattle.r4_extent_asks.proofs.intervals.+add_fills.Given as goal

abbrev pub decreases-add_fills : goal.decreases-add_fills
decreases-add_fills l = length l.fills.now
