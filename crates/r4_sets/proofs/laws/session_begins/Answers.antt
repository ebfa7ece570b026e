use Rattle.r4_sets.proofs.Answered.{opened_sets}
use Rattle.r4_sets.proofs.laws.session_begins.Goals as goal

pub returns : goal.returns
returns g = record { sets = opened_sets }
