use Rattle.r4_extent_put.proofs.Found.{can_put}
use Rattle.r4_extent_put.proofs.laws.found_puts_can_be_made.Goals as goal

pub returns : goal.returns
returns c = can_put
