use Rattle.r4_measure.proofs.Grafted.{graft_budget}
use Rattle.r4_measure.proofs.twig_laws.grafts_keep_a_budget.Goals as goal

pub returns : goal.returns
returns g now r f after b twig ups qs x d has are =
    let (left, budget, less, quiet, few, root) = graft_budget now r has.part has.seen f after has.free has.unplaced.0 has.unplaced.1
    has.root_number b has.budget twig ups qs x d are in
    record { left = left; budget = budget; less = less; quiet = quiet; few = few; root = root }
