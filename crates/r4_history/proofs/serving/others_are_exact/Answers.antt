use Rattle.r4_history.proofs.ServingSteps.{other_is_told, others_are_exact as exact, reads_tell, strangers_stay}
use Rattle.r4_history.proofs.serving.others_are_exact.Goals as goal

pub returns : goal.returns
returns c = record { one = exact; owners = other_is_told; reads = reads_tell; strangers = strangers_stay }
