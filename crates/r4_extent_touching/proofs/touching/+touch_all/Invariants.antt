use Rattle.std.proofs.Common.{length}
use Rattle.r4_extent_touching.proofs.touching.+touch_all.Given as goal

abbrev pub decreases-touch_all : goal.decreases-touch_all
decreases-touch_all g l = length l.keys.now
