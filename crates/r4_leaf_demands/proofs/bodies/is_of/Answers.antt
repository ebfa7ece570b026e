use Rattle.std.proofs.Common.{rules, sym}
use Rattle.r4_base.proofs.Keys.{is_key}
use Rattle.r4_suited.proofs.r4_leaf_edits.KeyRanks.{body_is}
use Rattle.r4_leaf_demands.proofs.bodies.is_of.Goals as goal

pub returns-clause-same : goal.returns-clause-same
returns-clause-same c = sym
    (body_is c.args.key (is_key c.args.key (search rules) (search rules) (search rules) (search rules) (search rules)))
