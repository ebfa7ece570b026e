use Rattle.std.proofs.Common.{length}
use Rattle.r4_extent_change.proofs.beside.+put_each.Given as goal

abbrev pub decreases-put_each : goal.decreases-put_each
decreases-put_each l = length l.all.now
