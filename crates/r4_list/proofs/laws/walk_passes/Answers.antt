use Rattle.r4_list.proofs.LinesLeft.{moved}
use Rattle.r4_list.proofs.WalkSteps.{passed}
use Rattle.r4_list.proofs.laws.walk_passes.Goals as goal

pub returns : goal.returns
returns c = record { lines = moved; walk = passed }
