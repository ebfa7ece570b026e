use Rattle.r4_reaching.proofs.Standing.{found_on}
use Rattle.r4_reaching.proofs.laws.what_was_found_stays.Goals as goal

pub returns : goal.returns
returns c = found_on
