use Rattle.std.proofs.Common.{length}
use Rattle.r4_summary.proofs.kept.+wipe_all.Given as goal

abbrev pub decreases-wipe_all : goal.decreases-wipe_all
decreases-wipe_all l = length l.runs.now
