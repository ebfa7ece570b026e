use Rattle.std.proofs.Common.{◌-◌}
use Rattle.r4_work.proofs.working.WorkingSet.+add_ups.Given as goal

abbrev pub decreases-add_ups : goal.decreases-add_ups
decreases-add_ups l = 9 - l.level
