use Rattle.std.proofs.Common.{length}
use Rattle.r4_extent_among.proofs.each.+put_among_each.Given as goal

abbrev pub decreases-put_among_each : goal.decreases-put_among_each
decreases-put_among_each l = length l.twigs.now
