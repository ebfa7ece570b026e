use Rattle.std.proofs.Common.{length}
use Rattle.r4_extent_change.proofs.beside.+cut_each.Given as goal

abbrev pub decreases-cut_each : goal.decreases-cut_each
decreases-cut_each l = length l.all.now
