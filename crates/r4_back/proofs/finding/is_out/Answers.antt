use Rattle.r4_back.proofs.Back.{by_gone}
use Rattle.r4_back.proofs.finding.is_out.Goals as goal

pub returns : goal.returns
returns g c =
    by_gone c.args.core.now c.args.task.now c.is_gone.result c.matched.result c.matched.ensures c.is_gone.ensures
