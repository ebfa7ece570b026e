use Rattle.std.proofs.Common.{length}
use Rattle.r4_bodies.proofs.sizes.+last_size.Given as goal

abbrev pub decreases-last_size : goal.decreases-last_size
decreases-last_size l = length l.values.now
