use Rattle.r4_extent_build.proofs.AllTurns.{all_left}
use Rattle.r4_extent_build.proofs.laws.turned_twigs_leave_a_set.Goals as goal

pub returns : goal.returns
returns c = λ most t r es f w now few is. all_left most t r es f w now few is
