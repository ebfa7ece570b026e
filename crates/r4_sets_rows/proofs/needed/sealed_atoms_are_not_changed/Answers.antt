use Rattle.r4_sets_rows.proofs.NeedsSmall.{unsealed_needed}
use Rattle.r4_sets_rows.proofs.needed.sealed_atoms_are_not_changed.Goals as goal

pub returns : goal.returns
returns c = record { unsealed = unsealed_needed 0 }
