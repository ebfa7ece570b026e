use Rattle.std.proofs.Common.{◌≤◌, ◌+◌, ap, ◌∙◌, rules, arith}
use Rattle.r4_base.specs.Key.{IsKey, offset_of, rank}
use Rattle.r4_branch.proofs.UnitPieces.{rank_later}
use Rattle.r4_edit_testing.proofs.remaking.is_tail.Goals as goal

pub returns : goal.returns
returns c true-is =
    let good : IsKey c.args.key = search rules in
    let some : 1 ≤ c.args.count = search rules in
    let short : offset_of c.args.key + c.args.count ≤ 16384 = search rules in
    let high : rank c.behind.result ≤ rank c.args.end = search rules in
    let next = ap rank c.behind.ensures ∙ rank_later c.args.key c.args.count in
    (good, (some, short, omega (arith, high, next)))
