use Rattle.r4_wander.proofs.Stepping.{all_calls}
use Rattle.r4_wander.proofs.laws.commit_is_bounded.Goals as goal

pub returns : goal.returns
returns c = all_calls
