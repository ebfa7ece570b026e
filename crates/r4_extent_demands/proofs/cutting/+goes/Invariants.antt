use Rattle.std.proofs.Common.{length}
use Rattle.r4_extent_demands.proofs.cutting.+goes.Given as goal

abbrev pub decreases-goes : goal.decreases-goes
decreases-goes l = length l.heard.now
