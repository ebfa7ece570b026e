use Rattle.r4_list.proofs.LinesLeft.{ended, nothing_open}
use Rattle.r4_list.proofs.WalkSteps.{left}
use Rattle.r4_list.proofs.laws.walk_leaves.Goals as goal

pub returns : goal.returns
returns c = record { lines = ended; walk = left; none = nothing_open }
