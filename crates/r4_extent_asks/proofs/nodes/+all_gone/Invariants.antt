use Rattle.std.proofs.Common.{length}
use Rattle.r4_extent_asks.proofs.nodes.+all_gone.Given as goal

abbrev pub decreases-all_gone : goal.decreases-all_gone
decreases-all_gone l = length l.heard.now
