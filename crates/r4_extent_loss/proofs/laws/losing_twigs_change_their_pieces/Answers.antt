use Rattle.r4_extent_loss.proofs.LossChanges.{pieces_change}
use Rattle.r4_extent_loss.proofs.laws.losing_twigs_change_their_pieces.Goals as goal

pub returns : goal.returns
returns c = λ b first e x losing loss. pieces_change b first e losing x loss
