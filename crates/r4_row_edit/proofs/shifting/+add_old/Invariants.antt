use Rattle.std.proofs.Common.{length}
use Rattle.r4_row_edit.proofs.shifting.+add_old.Given as goal

abbrev pub decreases-add_old : goal.decreases-add_old
decreases-add_old l = length l.rows.now
