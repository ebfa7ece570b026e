use Rattle.std.proofs.Common.{length}
use Rattle.r4_allowed.proofs.checking.+all_bear.Given as goal

abbrev pub decreases-all_bear : goal.decreases-all_bear
decreases-all_bear l = length l.cells.now
