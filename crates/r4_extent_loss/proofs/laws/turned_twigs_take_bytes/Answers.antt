use Rattle.r4_extent_loss.proofs.AllLost.{all_lost}
use Rattle.r4_extent_loss.proofs.laws.turned_twigs_take_bytes.Goals as goal

pub returns : goal.returns
returns c = λ b e t r xs f w now can is. all_lost b can.first e can.losing t r xs f w now can.each can.turns can.low is
