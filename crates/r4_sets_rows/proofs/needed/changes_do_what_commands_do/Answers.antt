use Rattle.r4_sets_rows.proofs.NeedsChanges.{files_needed, seen_needed, units_needed}
use Rattle.r4_sets_rows.proofs.needed.changes_do_what_commands_do.Goals as goal

pub returns : goal.returns
returns c = record { units = units_needed 0; seen = seen_needed 0; files = files_needed }
