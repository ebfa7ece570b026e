use Rattle.r4_applied.proofs.Applied.{in_reach}
use Rattle.r4_applied.proofs.laws.touched_keys_are_reached.Goals as goal

pub returns : goal.returns
returns c = λ x u root n k over. in_reach x u root n over k
