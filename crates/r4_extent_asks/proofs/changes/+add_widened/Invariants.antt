use Rattle.std.proofs.Common.{length}
use Rattle.r4_extent_asks.proofs.changes.+add_widened.Given as goal

abbrev pub decreases-add_widened : goal.decreases-add_widened
decreases-add_widened l = length l.more.now
