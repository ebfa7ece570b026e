use Rattle.r4_extent_turn.proofs.AskedRoom.{asked_room}
use Rattle.r4_extent_turn.proofs.laws.turned_twigs_need_what_is_asked.Goals as goal

pub returns : goal.returns
returns c = λ b first e x s hs more turning turn kept only few. asked_room b x turn hs only s kept first turning e more few
