use Rattle.std.proofs.Common.{◌-◌}
use Rattle.r4_row_gather.proofs.rising.+rows_from.Given as goal

abbrev pub decreases-rows_from : goal.decreases-rows_from
decreases-rows_from l = 8 - l.level
