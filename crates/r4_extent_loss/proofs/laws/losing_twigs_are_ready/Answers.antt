use Rattle.r4_extent_loss.proofs.Ready.{is_ready}
use Rattle.r4_extent_loss.proofs.laws.losing_twigs_are_ready.Goals as goal

pub returns : goal.returns
returns c = λ t r f w u b first e x working losing loss stands few. is_ready t r f w working u b first e x losing loss stands few
