use Rattle.r4_rows.proofs.Turned.{turned}
use Rattle.r4_rows.proofs.laws.turns_take_effect.Goals as goal

pub returns : goal.returns
returns c = λ t r b s more over from to values change is. turned t r b s more over from to values change is
