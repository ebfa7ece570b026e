use Rattle.r4_list.proofs.LinesLeft.{begun, file_lines}
use Rattle.r4_list.proofs.WalkSteps.{begun_walk}
use Rattle.r4_list.proofs.laws.walk_begins.Goals as goal

pub returns : goal.returns
returns c = record { file = file_lines; dir = begun; walk = begun_walk }
