use Rattle.r4_measure.proofs.AskedTwigs.{asked_above_budget, low_none}
use Rattle.r4_measure.proofs.twig_laws.what_is_asked_of_twigs_is_a_budget.Goals as goal

pub returns : goal.returns
returns g = record {
  budget = λ b e reads rs t r part is. asked_above_budget b e reads rs t r part is;
  quiet = λ d t l i low. low_none d t l i low;
}
