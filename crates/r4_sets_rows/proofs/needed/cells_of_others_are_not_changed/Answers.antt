use Rattle.r4_sets_rows.proofs.NeedsChanges.{own_needed}
use Rattle.r4_sets_rows.proofs.needed.cells_of_others_are_not_changed.Goals as goal

pub returns : goal.returns
returns c = record { own = own_needed 0 }
