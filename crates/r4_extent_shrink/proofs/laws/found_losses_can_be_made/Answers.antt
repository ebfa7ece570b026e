use Rattle.r4_extent_shrink.proofs.Found.{can_lose}
use Rattle.r4_extent_shrink.proofs.laws.found_losses_can_be_made.Goals as goal

pub returns : goal.returns
returns c = can_lose
