use Rattle.r4_sets.proofs.Applied.{applied_sets}
use Rattle.r4_sets.proofs.laws.command_applies.Goals as goal

pub returns : goal.returns
returns g = record { sets = λ w l c txn script index x d h a. applied_sets w l c h txn script index x d a }
