use Rattle.r4_extent_turn.proofs.SetsBytes.{sets_below}
use Rattle.r4_extent_turn.proofs.laws.turning_turns_set_bytes.Goals as goal

pub returns : goal.returns
returns c = λ b first e x s next turning turn kept high. sets_below b x turn s kept first turning e next high
