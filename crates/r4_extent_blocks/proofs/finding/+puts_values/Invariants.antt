use Rattle.std.proofs.Common.{length}
use Rattle.r4_extent_blocks.proofs.finding.+puts_values.Given as goal

abbrev pub decreases-puts_values : goal.decreases-puts_values
decreases-puts_values l = length l.values.now
