use Rattle.r4_durable_rows.proofs.Changed.{changes, ordered}
use Rattle.r4_durable_rows.proofs.told.one_atom_changes_something.Goals as goal

pub returns : goal.returns
returns g = record { ordered = ordered; changes = changes }
