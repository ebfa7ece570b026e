use Rattle.r4_work.proofs.Ranges.{standing_apart}
use Rattle.r4_work.proofs.working.WorkingSet.leaf_at.Goals as goal

pub returns-clause-exact : goal.returns-clause-exact
returns-clause-exact c t r f is = c.cell_at.ensures.exact (standing_apart t r f c.args.self.now is)
