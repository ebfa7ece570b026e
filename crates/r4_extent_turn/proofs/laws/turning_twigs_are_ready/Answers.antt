use Rattle.r4_extent_turn.proofs.ReadyTurn.{is_ready}
use Rattle.r4_extent_turn.proofs.laws.turning_twigs_are_ready.Goals as goal

pub returns : goal.returns
returns c = λ t r f w u b first e x s working turning turn kept stands small few.
    is_ready t r f w working u b first e x s turning turn kept stands small few
