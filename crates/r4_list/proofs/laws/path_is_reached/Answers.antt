use Rattle.r4_list.proofs.WalkPaths.{step_reached, walk_reached}
use Rattle.r4_list.proofs.laws.path_is_reached.Goals as goal

pub returns : goal.returns
returns c = record { step = step_reached; walk = walk_reached }
