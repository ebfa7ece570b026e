use Rattle.r4_sets.proofs.Answered.{answered_sets}
use Rattle.r4_sets.proofs.laws.command_is_answered.Goals as goal

pub returns : goal.returns
returns g = record { sets = λ w l c txn script index x h a. answered_sets w l c h txn script index x a }
