use Rattle.std.proofs.Common.{length}
use Rattle.r4_dir.proofs.finding.+value_rising.Given as goal

abbrev pub decreases-value_rising : goal.decreases-value_rising
decreases-value_rising l = length l.parts.now
