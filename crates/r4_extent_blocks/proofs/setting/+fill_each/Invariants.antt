use Rattle.std.proofs.Common.{length}
use Rattle.r4_extent_blocks.proofs.setting.+fill_each.Given as goal

abbrev pub decreases-fill_each : goal.decreases-fill_each
decreases-fill_each l = length l.fills.now
