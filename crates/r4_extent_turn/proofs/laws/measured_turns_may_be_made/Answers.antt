use Rattle.r4_extent_turn.proofs.ReadyTurn.{can_turn_out, few_left}
use Rattle.r4_extent_turn.proofs.laws.measured_turns_may_be_made.Goals as goal

pub returns : goal.returns
returns c = record {
  can = λ b first e t r x f w u may. can_turn_out b first e t r x f w u may;
  few = λ b first e t r x s f w u may kept. few_left b first e t r x f w u may s kept;
}
