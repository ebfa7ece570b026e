use Rattle.std.proofs.Common.{arith}
use Rattle.std.proofs.lemmas.Result.{IfOk-weaker}
use Rattle.r4_path.specs.Rows.{row_items}
use Rattle.r4_path.proofs.Results.{and_ok, both_ok}
use Rattle.r4_path.proofs.Shared.{shares_one, shares_two, two_at_least, weigh_all}
use Rattle.r4_path.proofs.sharing.share.Goals as goal

pub returns-then-weight-le-ROOM-clause-shares : goal.returns-then-weight-le-ROOM-clause-shares
returns-then-weight-le-ROOM-clause-shares c =
    let same = weigh_all c.args.old.now c.args.row.now c.requires.row c.len.result c.len.ensures in
    let weighs = c.weight.ensures in
    let few = c.if-weight-le-ROOM.true in
    IfOk-weaker c.one.result _ _ (λ cells h. let (has, one) = h c.args.fresh.now.next in
    shares_one c.args.old.now (row_items c.args.row.now) c.args.fresh.now cells has one
    (omega (arith, same, weighs, few))) c.one.ensures

pub two-requires-clause-two : goal.two-requires-clause-two
two-requires-clause-two c =
    let same = weigh_all c.args.old.now c.args.row.now c.requires.row c.len.result c.len.ensures in
    let weighs = c.weight.ensures in
    let over = c.if-weight-le-ROOM.false in
    two_at_least (row_items c.args.row.now) c.requires.row.row.bodies (omega (arith, same, weighs, over))

pub returns-clause-shares : goal.returns-clause-shares
returns-clause-shares c =
    let same = weigh_all c.args.old.now c.args.row.now c.requires.row c.len.result c.len.ensures in
    let weighs = c.weight.ensures in
    let over = c.if-weight-le-ROOM.false in
    both_ok c.two.result _ _ (λ cells h took. shares_two c.args.old.now
    (row_items c.args.row.now) c.args.fresh.now c.two.new.fresh cells h.0.0 h.0.1
    (omega (arith, same, weighs, over)) took h.1)
    (and_ok c.two.result _ _ c.two.ensures.cells c.two.ensures.filled) c.two.ensures.fresh
