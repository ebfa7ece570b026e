use Rattle.r4_sets.proofs.Promised.{promised}
use Rattle.r4_sets.proofs.changes.changes_do_commands.Goals as goal

pub returns : goal.returns
returns g = promised
