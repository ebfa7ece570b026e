use Rattle.r4_extent_loss.proofs.LosingTurns.{turn_of}
use Rattle.r4_extent_loss.proofs.laws.losing_twigs_have_their_turn.Goals as goal

pub returns : goal.returns
returns c = λ b first e x next losing loss high. turn_of b x loss first e losing next high
