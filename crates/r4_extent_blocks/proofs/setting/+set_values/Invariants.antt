use Rattle.std.proofs.Common.{length}
use Rattle.r4_extent_blocks.proofs.setting.+set_values.Given as goal

abbrev pub decreases-set_values : goal.decreases-set_values
decreases-set_values l = length l.values.now
