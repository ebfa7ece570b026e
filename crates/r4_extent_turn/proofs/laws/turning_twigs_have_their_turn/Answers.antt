use Rattle.r4_extent_turn.proofs.TurnOf.{turn_of}
use Rattle.r4_extent_turn.proofs.laws.turning_twigs_have_their_turn.Goals as goal

pub returns : goal.returns
returns c = λ b first e x s next turning turn kept small high. turn_of b x turn s kept first turning e small next high
