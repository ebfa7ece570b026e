use Rattle.r4_sets_rows.proofs.NeedsChanges.{changes_needed, within_needed}
use Rattle.r4_sets_rows.proofs.needed.keys_that_commands_change_are_told.Goals as goal

pub returns : goal.returns
returns c = record { changes = changes_needed; within = within_needed }
