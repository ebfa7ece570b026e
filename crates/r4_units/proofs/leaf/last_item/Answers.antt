use Rattle.std.proofs.Common.{rules}
use Rattle.r4_base.proofs.Keys.{is_key}
use Rattle.r4_units.proofs.leaf.last_item.Goals as goal

pub returns-then-count-eq0-clause-key : goal.returns-then-count-eq0-clause-key
returns-then-count-eq0-clause-key c = is_key c.args.key (search rules) (search rules) (search rules) (search rules) (search rules)

pub returns-clause-key : goal.returns-clause-key
returns-clause-key c = is_key c.args.key (search rules) (search rules) (search rules) (search rules) (search rules)
