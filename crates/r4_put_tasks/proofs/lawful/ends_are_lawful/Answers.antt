use Rattle.std.proofs.Common.{ap, rules, sym, ◌∙◌}
use Rattle.std.specs.Prelude.{not}
use Rattle.r4_base.proofs.Keys.{is_key}
use Rattle.r4_base.specs.Key.{rank}
use Rattle.r4_put_tasks.proofs.LawfulKeys.{below_top, ends_low}
use Rattle.r4_put_tasks.proofs.lawful.ends_are_lawful.Goals as goal

pub returns-else-not-is_below : goal.returns-else-not-is_below
returns-else-not-is_below c =
    let is = is_key c.args.to (search rules) (search rules) (search rules) (search rules) (search rules) in
    ap not c.is_before_all.ensures
    ∙ ends_low (rank c.args.from) (rank c.args.to) (sym c.is_below.ensures ∙ c.if-not-is_below.false) (below_top c.args.to is)
