use Rattle.std.proofs.Common.{ap, arith, length}
use Rattle.std.proofs.lemmas.Bool.Decides.{nat_tests}
use Rattle.r4_base.specs.Key.{rank}
use Rattle.r4_row_edit.proofs.Placed.{none_behind, one_more_below}
use Rattle.r4_row_edit.proofs.placing.place_in.Goals as goal

pub loop-i-preserved : goal.loop-i-preserved
loop-i-preserved c = one_more_below c.args.items.now c.loop-i.i (rank c.args.key) c.index-items-i.result c.loop-i-test.true
    c.index-items-i.is c.loop-i.invariant (let same = ap rank c.key.ensures in
    let says = c.is_below.ensures in
    let is = c.if-not-is_below.false in
    grind (arith, nat_tests, same, says, is))

pub returns-clause-at : goal.returns-clause-at
returns-clause-at c = λ x at. absurd (none_behind c.args.items.now (length c.args.items.now) x (omega arith) at)
