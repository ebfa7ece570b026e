use Rattle.std.proofs.Common.{rules, ap, ◌∙◌}
use Rattle.r4_base.proofs.Keys.{is_key}
use Rattle.r4_base.specs.Key.{rank}
use Rattle.r4_base.specs.declared.key.Key.{Key}
use Rattle.r4_leaf_demands.specs.r4_reach.Reach.{is_body}
use Rattle.r4_bodies.proofs.FileSizes.{stat_is_none}
use Rattle.r4_bodies.proofs.keys.stat_of.Goals as goal

pub returns-clause-other : goal.returns-clause-other
returns-clause-other c = ap (λ (k : Key). is_body (rank k)) c.stat.ensures
    ∙ stat_is_none c.args.key
    (is_key c.args.key (search rules) (search rules) (search rules) (search rules) (search rules))
