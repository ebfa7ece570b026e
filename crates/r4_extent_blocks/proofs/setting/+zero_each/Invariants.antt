use Rattle.std.proofs.Common.{length}
use Rattle.r4_extent_blocks.proofs.setting.+zero_each.Given as goal

abbrev pub decreases-zero_each : goal.decreases-zero_each
decreases-zero_each l = length l.zeros.now
