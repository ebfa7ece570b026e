use Rattle.std.proofs.Common.{length}
use Rattle.r4_extent_renew.proofs.renewing.+overwrite_each.Given as goal

abbrev pub decreases-overwrite_each : goal.decreases-overwrite_each
decreases-overwrite_each l = length l.blocks.now
