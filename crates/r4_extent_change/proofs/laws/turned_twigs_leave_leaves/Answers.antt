use Rattle.r4_extent_change.proofs.GrownTurns.{leaves_left}
use Rattle.r4_extent_change.proofs.laws.turned_twigs_leave_leaves.Goals as goal

pub returns : goal.returns
returns c = λ b first e u t r f w now twigs growing is turned. leaves_left b first e t r growing u f w twigs is now turned
