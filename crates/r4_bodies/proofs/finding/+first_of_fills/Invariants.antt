use Rattle.std.proofs.Common.{length}
use Rattle.r4_bodies.proofs.finding.+first_of_fills.Given as goal

abbrev pub decreases-first_of_fills : goal.decreases-first_of_fills
decreases-first_of_fills l = length l.fills.now
