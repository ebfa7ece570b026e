use Rattle.r4_measure.proofs.Asked.{asked_budget}
use Rattle.r4_measure.proofs.laws.what_is_asked_is_a_budget.Goals as goal

pub returns : goal.returns
returns g b e reads rs t r part is = asked_budget b e reads rs t r part is
