use Rattle.std.proofs.Common.{rules, ◌∙◌, ap, is_lt}
use Rattle.r4_base.proofs.Keys.{is_key, compared}
use Rattle.r4_base.proofs.key.Key.is_below.Goals as goal

pub returns : goal.returns
returns c =
    let left = is_key c.args.self (search rules) (search rules) (search rules) (search rules) (search rules) in
    let right = is_key c.args.other (search rules) (search rules) (search rules) (search rules) (search rules) in
    c.is_lt.ensures ∙ ap is_lt c.cmp.ensures ∙ compared c.args.self c.args.other left right
