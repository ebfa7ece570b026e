use Rattle.std.proofs.Common.{rules}
use Rattle.r4_base.proofs.Keys.{is_key}
use Rattle.r4_base.proofs.Names.{keys_equal, keys_same}
use Rattle.r4_base.proofs.key.Key.is_same.Goals as goal

pub returns-clause-ranks : goal.returns-clause-ranks
returns-clause-ranks c =
    let left = is_key c.args.self (search rules) (search rules) (search rules) (search rules) (search rules) in
    let right = is_key c.args.other (search rules) (search rules) (search rules) (search rules) (search rules) in
    keys_equal c.args.self c.args.other c.eq.result left right c.eq.ensures

pub returns-clause-keys : goal.returns-clause-keys
returns-clause-keys c is = keys_same c.args.self c.args.other c.eq.result c.eq.ensures is
