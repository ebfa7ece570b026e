use Rattle.std.proofs.Common.{length}
use Rattle.r4_allowed.proofs.counting.+all_from.Given as goal

abbrev pub decreases-all_from : goal.decreases-all_from
decreases-all_from l = length l.cells.now
