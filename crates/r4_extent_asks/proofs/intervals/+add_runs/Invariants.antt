use Rattle.std.proofs.Common.{length}
use Rattle.r4_extent_asks.proofs.intervals.+add_runs.Given as goal

abbrev pub decreases-add_runs : goal.decreases-add_runs
decreases-add_runs l = length l.runs.now
