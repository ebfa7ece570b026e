use Rattle.std.proofs.Common.{◌∙◌, ap, sym, not, rules}
use Rattle.std.proofs.lemmas.Bool.{eqb-false, eqb-true}
use Rattle.r4_base.specs.Key.{rank}
use Rattle.r4_base.proofs.Keys.{is_key}
use Rattle.r4_judging.proofs.Turns.{by_fault, by_key, by_level, by_other, rank_small}
use Rattle.r4_judging.proofs.misfit.comes_before.Goals as goal

pub returns-then-one-other : goal.returns-then-one-other
returns-then-one-other c =
    let one = is_key c.args.one.lo (search rules) (search rules) (search rules) (search rules) (search rules) in
    let other = is_key c.args.other.lo (search rules) (search rules) (search rules) (search rules) (search rules) in
    by_level c.args.one.level c.args.other.level (rank c.args.one.lo)
    (rank c.args.other.lo) c.args.one.fault c.args.other.fault (search rules) (search rules)
    (rank_small c.args.one.lo one) (rank_small c.args.other.lo other) c.if-one-other.true

pub returns-then-not-is_same : goal.returns-then-not-is_same
returns-then-not-is_same c =
    let one = is_key c.args.one.lo (search rules) (search rules) (search rules) (search rules) (search rules) in
    let other = is_key c.args.other.lo (search rules) (search rules) (search rules) (search rules) (search rules) in
    c.is_below.ensures
    ∙ by_key c.args.one.level c.args.other.level (rank c.args.one.lo)
    (rank c.args.other.lo) c.args.one.fault c.args.other.fault (search rules) (search rules)
    (rank_small c.args.one.lo one) (rank_small c.args.other.lo other) c.if-one-other.false
    (eqb-false (rank c.args.one.lo) (rank c.args.other.lo) (sym c.if-not-is_same.ensures.ranks))

pub returns-then-is_of_level : goal.returns-then-is_of_level
returns-then-is_of_level c =
    let one = is_key c.args.one.lo (search rules) (search rules) (search rules) (search rules) (search rules) in
    let other = is_key c.args.other.lo (search rules) (search rules) (search rules) (search rules) (search rules) in
    ap not c.is_of_level-then-is_of_level.ensures
    ∙ by_fault c.args.one.level c.args.other.level (rank c.args.one.lo)
    (rank c.args.other.lo) c.args.one.fault c.args.other.fault (search rules) (search rules)
    (rank_small c.args.one.lo one) (rank_small c.args.other.lo other) c.if-one-other.false
    (eqb-true (rank c.args.one.lo) (rank c.args.other.lo) (sym c.if-not-is_same.ensures.ranks))
    (sym c.if-is_of_level.ensures)

pub returns-else-is_of_level : goal.returns-else-is_of_level
returns-else-is_of_level c =
    let one = is_key c.args.one.lo (search rules) (search rules) (search rules) (search rules) (search rules) in
    let other = is_key c.args.other.lo (search rules) (search rules) (search rules) (search rules) (search rules) in
    let is = c.if-is_of_level.ensures in
    c.is_of_level.ensures
    ∙ (sym is ∙ by_other c.args.one.level c.args.other.level (rank c.args.one.lo)
    (rank c.args.other.lo) c.args.one.fault c.args.other.fault (search rules) (search rules)
    (rank_small c.args.one.lo one) (rank_small c.args.other.lo other) c.if-one-other.false
    (eqb-true (rank c.args.one.lo) (rank c.args.other.lo) (sym c.if-not-is_same.ensures.ranks)) (sym is))
