use Rattle.std.proofs.Common.{length}
use Rattle.r4_squeeze.proofs.numbering.+add.Given as goal

abbrev pub decreases-add : goal.decreases-add
decreases-add l = length l.ids.now
