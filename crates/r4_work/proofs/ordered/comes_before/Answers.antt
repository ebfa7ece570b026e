use Rattle.std.proofs.Common.{rules, ◌∙◌}
use Rattle.r4_base.specs.Key.{rank}
use Rattle.r4_base.proofs.Keys.{is_key}
use Rattle.r4_work.proofs.Places.{by_key, by_level, by_neither, rank_small}
use Rattle.r4_work.proofs.ordered.comes_before.Goals as goal

pub returns-then-level-other : goal.returns-then-level-other
returns-then-level-other c =
    let key = is_key c.args.key (search rules) (search rules) (search rules) (search rules) (search rules) in
    let other = is_key c.args.other_key (search rules) (search rules) (search rules) (search rules) (search rules) in
    by_level c.args.level c.args.other (rank c.args.key) (rank c.args.other_key) (rank_small c.args.key key) (rank_small c.args.other_key other) c.if-level-other.true

pub returns-then-level-other-2 : goal.returns-then-level-other-2
returns-then-level-other-2 c =
    let key = is_key c.args.key (search rules) (search rules) (search rules) (search rules) (search rules) in
    let other = is_key c.args.other_key (search rules) (search rules) (search rules) (search rules) (search rules) in
    c.is_below.ensures
    ∙ by_key c.args.level c.args.other (rank c.args.key) (rank c.args.other_key) (rank_small c.args.key key) (rank_small c.args.other_key other) c.if-level-other-2.true

pub returns-else-level-other-2 : goal.returns-else-level-other-2
returns-else-level-other-2 c =
    let key = is_key c.args.key (search rules) (search rules) (search rules) (search rules) (search rules) in
    let other = is_key c.args.other_key (search rules) (search rules) (search rules) (search rules) (search rules) in
    by_neither c.args.level c.args.other (rank c.args.key) (rank c.args.other_key) (rank_small c.args.key key) (rank_small c.args.other_key other) c.if-level-other.false c.if-level-other-2.false
