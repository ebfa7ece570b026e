use Rattle.std.proofs.Common.{length}
use Rattle.r4_extent_blocks.proofs.finding.+runs_over.Given as goal

abbrev pub decreases-runs_over : goal.decreases-runs_over
decreases-runs_over l = length l.runs.now
