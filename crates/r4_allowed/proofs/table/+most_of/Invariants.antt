use Rattle.std.proofs.Common.{length}
use Rattle.r4_allowed.proofs.table.+most_of.Given as goal

abbrev pub decreases-most_of : goal.decreases-most_of
decreases-most_of l = length l.table.now
