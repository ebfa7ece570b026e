use Rattle.std.proofs.Common.{length}
use Rattle.r4_build.proofs.building.+make_each.Given as goal

abbrev pub decreases-make_each : goal.decreases-make_each
decreases-make_each l = length l.cells.now
