use Rattle.r4_extent_growth.proofs.Found.{can_grow}
use Rattle.r4_extent_growth.proofs.laws.found_growths_can_be_made.Goals as goal

pub returns : goal.returns
returns c = can_grow
