use Rattle.r4_extent_growth.proofs.Complete.{found}
use Rattle.r4_extent_growth.proofs.laws.growths_are_found.Goals as goal

pub returns : goal.returns
returns c = found
