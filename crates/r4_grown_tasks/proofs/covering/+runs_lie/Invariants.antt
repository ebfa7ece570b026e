use Rattle.std.proofs.Common.{length}
use Rattle.r4_grown_tasks.proofs.covering.+runs_lie.Given as goal

abbrev pub decreases-runs_lie : goal.decreases-runs_lie
decreases-runs_lie l = length l.runs.now
