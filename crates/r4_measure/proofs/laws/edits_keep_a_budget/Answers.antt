use Rattle.r4_measure.proofs.Kept.{budget_kept}
use Rattle.r4_measure.proofs.laws.edits_keep_a_budget.Goals as goal

pub returns : goal.returns
returns g now r f after b us leaf ups d has e =
    let (left, budget, others, less, few, root) = budget_kept now r has.part has.seen f after has.free has.unplaced.0 has.unplaced.1
    e.takes has.root_number b has.budget us leaf ups d e.level e.path e.enough e.come e.edits in
    record { left = left; budget = budget; others = others; less = less; few = few; root = root }
