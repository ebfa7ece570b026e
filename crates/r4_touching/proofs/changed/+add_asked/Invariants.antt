use Rattle.std.proofs.Common.{length}
use Rattle.r4_touching.proofs.changed.+add_asked.Given as goal

abbrev pub decreases-add_asked : goal.decreases-add_asked
decreases-add_asked l = length l.asked.now
