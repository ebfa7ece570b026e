use Rattle.std.proofs.Common.{length}
use Rattle.r4_leaf_edits.proofs.making.+set_runs.Given as goal

abbrev pub decreases-set_runs : goal.decreases-set_runs
decreases-set_runs l = length l.runs.now
