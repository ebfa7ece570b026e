use Rattle.std.proofs.Common.{length}
use Rattle.r4_extent_blocks.proofs.finding.+puts_runs.Given as goal

abbrev pub decreases-puts_runs : goal.decreases-puts_runs
decreases-puts_runs l = length l.runs.now
