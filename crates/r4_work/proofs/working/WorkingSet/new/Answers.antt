use Rattle.std.proofs.Common.{map, rules}
use Rattle.std.specs.Arc.{arc_value}
use Rattle.r4_work.proofs.Starting.{start_working}
use Rattle.r4_work.proofs.working.WorkingSet.new.Goals as goal

pub returns-clause-working : goal.returns-clause-working
returns-clause-working c t r f are =
    start_working (map (λ x. arc_value x) c.args.cells.now) _
    (record {
      kept = c.in_ok-kept.ensures.same;
      order = c.in_ok-kept.ensures.order;
      made = c.new.ensures;
      old = c.new-2.ensures;
      new = c.new-3.ensures;
      root = search rules;
    }) t r f are
