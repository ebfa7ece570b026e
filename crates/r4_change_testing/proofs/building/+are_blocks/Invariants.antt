use Rattle.std.proofs.Common.{length}
use Rattle.r4_change_testing.proofs.building.+are_blocks.Given as goal

abbrev pub decreases-are_blocks : goal.decreases-are_blocks
decreases-are_blocks l = length l.cells.now
