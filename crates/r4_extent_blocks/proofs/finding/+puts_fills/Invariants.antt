use Rattle.std.proofs.Common.{length}
use Rattle.r4_extent_blocks.proofs.finding.+puts_fills.Given as goal

abbrev pub decreases-puts_fills : goal.decreases-puts_fills
decreases-puts_fills l = length l.those.now
