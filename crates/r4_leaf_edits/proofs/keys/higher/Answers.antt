use Rattle.std.proofs.Common.{rules}
use Rattle.r4_base.proofs.Keys.{is_key}
use Rattle.r4_leaf_edits.proofs.keys.higher.Goals as goal

pub returns-then-is_below-clause-key : goal.returns-then-is_below-clause-key
returns-then-is_below-clause-key c = is_key c.args.b (search rules) (search rules) (search rules) (search rules) (search rules)

pub returns-else-is_below-clause-key : goal.returns-else-is_below-clause-key
returns-else-is_below-clause-key c = is_key c.args.a (search rules) (search rules) (search rules) (search rules) (search rules)
