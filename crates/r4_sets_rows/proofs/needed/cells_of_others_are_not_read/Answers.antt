use Rattle.r4_sets_rows.proofs.NeedsSmall.{reach_needed, reads_needed}
use Rattle.r4_sets_rows.proofs.needed.cells_of_others_are_not_read.Goals as goal

pub returns : goal.returns
returns c = record { reach = reach_needed 0; reads = reads_needed 0 }
