use Rattle.std.proofs.Common.{length}
use Rattle.r4_allowed.proofs.checking.+is_pointed_to.Given as goal

abbrev pub decreases-is_pointed_to : goal.decreases-is_pointed_to
decreases-is_pointed_to l = length l.cells.now
