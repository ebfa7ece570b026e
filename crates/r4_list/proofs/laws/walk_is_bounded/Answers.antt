use Rattle.r4_list.proofs.DepthBound.{depth, some_enough, some_length}
use Rattle.r4_list.proofs.laws.walk_is_bounded.Goals as goal

pub returns : goal.returns
returns c = record { depth = depth; length = some_length; enough = some_enough }
