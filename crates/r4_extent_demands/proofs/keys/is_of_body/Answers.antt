use Rattle.std.proofs.Common.{rules, sym}
use Rattle.r4_base.proofs.Keys.{is_key}
use Rattle.r4_bodies.proofs.r4_leaf_edits.KeyRanks.{body_is}
use Rattle.r4_extent_demands.proofs.keys.is_of_body.Goals as goal

pub returns : goal.returns
returns c = sym
    (body_is c.args.key (is_key c.args.key (search rules) (search rules) (search rules) (search rules) (search rules)))
