use Rattle.std.proofs.Common.{length}
use Rattle.r4_extent_blocks.proofs.setting.+set_runs.Given as goal

abbrev pub decreases-set_runs : goal.decreases-set_runs
decreases-set_runs l = length l.runs.now
