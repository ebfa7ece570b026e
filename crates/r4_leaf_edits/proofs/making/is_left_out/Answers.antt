use Rattle.std.proofs.Common.{Bool, not, ◌&&◌, sym, ap, rules, ◌∙◌}
use Rattle.r4_base.specs.Key.{rank}
use Rattle.r4_base.proofs.Keys.{is_key}
use Rattle.r4_reach.specs.Reach.{is_body}
use Rattle.r4_leaf_edits.proofs.KeyRanks.{body_is}
use Rattle.r4_leaf_edits.proofs.making.is_left_out.Goals as goal

pub returns-then-not-bytes-clause-test : goal.returns-then-not-bytes-clause-test
returns-then-not-bytes-clause-test c =
    let is = is_key c.args.key (search rules) (search rules) (search rules) (search rules) (search rules) in
    sym (body_is c.args.key is) ∙ ap (λ (b : Bool). not b && is_body (rank c.args.key)) (sym c.if-not-bytes.true)

pub returns-then-not-bytes-clause-fits : goal.returns-then-not-bytes-clause-fits
returns-then-not-bytes-clause-fits c = is_key c.args.key (search rules) (search rules) (search rules) (search rules) (search rules)

pub returns-else-not-bytes-clause-fits : goal.returns-else-not-bytes-clause-fits
returns-else-not-bytes-clause-fits c = is_key c.args.key (search rules) (search rules) (search rules) (search rules) (search rules)
