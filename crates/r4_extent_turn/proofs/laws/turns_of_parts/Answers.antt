use Rattle.r4_extent_turn.proofs.ReadyTurn.{turn_in_part}
use Rattle.r4_extent_turn.proofs.laws.turns_of_parts.Goals as goal

pub returns : goal.returns
returns c = λ t r f w b x working is. turn_in_part t r f w b x working is
