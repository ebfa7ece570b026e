use Rattle.std.proofs.Common.{length}
use Rattle.r4_row_edit.proofs.shifting.+add_new.Given as goal

abbrev pub decreases-add_new : goal.decreases-add_new
decreases-add_new l = length l.rows.now
