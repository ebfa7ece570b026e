use Rattle.r4_sets_told.proofs.Counted.{replies_follow}
use Rattle.r4_sets_told.proofs.runs.chosen_commands.Goals as goal

pub returns : goal.returns
returns c = record { replies = λ w l start trace s r f. replies_follow w l start s trace r f }
