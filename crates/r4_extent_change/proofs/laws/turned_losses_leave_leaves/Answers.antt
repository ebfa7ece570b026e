use Rattle.r4_extent_change.proofs.LostTurns.{leaves_wider}
use Rattle.r4_extent_change.proofs.laws.turned_losses_leave_leaves.Goals as goal

pub returns : goal.returns
returns c = λ b first e u t r f w now xs may turned. leaves_wider b first e u t r f w now xs may turned
