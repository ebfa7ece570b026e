use Rattle.std.proofs.Common.{[]}
use Rattle.r4_extent_turn.proofs.AskedRoom.{turned_room}
use Rattle.r4_extent_turn.proofs.laws.turned_twigs_need_no_pointers_there.Goals as goal

pub returns : goal.returns
returns c = λ b first e x s turning turn kept. turned_room b x turn [] (λ p at gone. absurd cc) s kept first turning e
