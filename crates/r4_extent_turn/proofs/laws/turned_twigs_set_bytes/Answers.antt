use Rattle.r4_extent_turn.proofs.SetTurned.{set_turned}
use Rattle.r4_extent_turn.proofs.laws.turned_twigs_set_bytes.Goals as goal

pub returns : goal.returns
returns c = λ b e t r x s f w now can kept turned. set_turned b e t r x s f w now can kept turned
