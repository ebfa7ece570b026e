use Rattle.std.proofs.Common.{length}
use Rattle.r4_bodies.proofs.finding.+first_of_runs.Given as goal

abbrev pub decreases-first_of_runs : goal.decreases-first_of_runs
decreases-first_of_runs l = length l.runs.now
