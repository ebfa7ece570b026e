use Rattle.std.proofs.Common.{length}
use Rattle.r4_edit_testing.proofs.remaking.+are_put.Given as goal

abbrev pub decreases-are_put : goal.decreases-are_put
decreases-are_put l = length l.items.now
