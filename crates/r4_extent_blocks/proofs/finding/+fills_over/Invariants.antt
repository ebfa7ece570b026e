use Rattle.std.proofs.Common.{length}
use Rattle.r4_extent_blocks.proofs.finding.+fills_over.Given as goal

abbrev pub decreases-fills_over : goal.decreases-fills_over
decreases-fills_over l = length l.fills.now
