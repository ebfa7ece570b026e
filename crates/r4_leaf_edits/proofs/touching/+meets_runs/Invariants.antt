use Rattle.std.proofs.Common.{length}
use Rattle.r4_leaf_edits.proofs.touching.+meets_runs.Given as goal

abbrev pub decreases-meets_runs : goal.decreases-meets_runs
decreases-meets_runs l = length l.runs.now
