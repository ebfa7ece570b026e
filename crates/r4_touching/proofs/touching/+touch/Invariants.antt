use Rattle.std.proofs.Common.{length}
use Rattle.r4_touching.proofs.touching.+touch.Given as goal

abbrev pub decreases-touch : goal.decreases-touch
decreases-touch g l = length l.keys.now
