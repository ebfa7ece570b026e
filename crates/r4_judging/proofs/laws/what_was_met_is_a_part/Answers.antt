use Rattle.r4_judging.proofs.Parts.{is_part}
use Rattle.r4_judging.proofs.laws.what_was_met_is_a_part.Goals as goal

pub returns : goal.returns
returns c = is_part
