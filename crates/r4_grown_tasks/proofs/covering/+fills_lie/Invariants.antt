use Rattle.std.proofs.Common.{length}
use Rattle.r4_grown_tasks.proofs.covering.+fills_lie.Given as goal

abbrev pub decreases-fills_lie : goal.decreases-fills_lie
decreases-fills_lie l = length l.fills.now
