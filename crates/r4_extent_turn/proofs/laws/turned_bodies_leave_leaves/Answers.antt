use Rattle.r4_extent_turn.proofs.LeftSet.{turn_leaves}
use Rattle.r4_extent_turn.proofs.laws.turned_bodies_leave_leaves.Goals as goal

pub returns : goal.returns
returns c = λ b first e t r x s f w now u may kept turned. turn_leaves b first e t r x s f w now u may kept turned
