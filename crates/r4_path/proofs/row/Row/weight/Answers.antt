use Rattle.std.proofs.Common.{◌≡◌, subst, arith}
use Rattle.std.specs.Prelude.{IfSome}
use Rattle.r4_path.specs.Nodes.{weight_of}
use Rattle.r4_path.specs.Rows.{row_items}
use Rattle.r4_path.proofs.Putting.{item_there, weight_more}
use Rattle.r4_path.proofs.row.Row.weight.Goals as goal

pub overflow_add-bytes : goal.overflow_add-bytes
overflow_add-bytes c = let most = c.loop-i.invariant.1 in let small = c.weight_of-bytes.ensures.small in
    let lt = c.loop-i-test.true in let to = c.ranges.to.fits in omega (arith, most, small, lt, to)

pub loop-i-preserved : goal.loop-i-preserved
loop-i-preserved c =
    let lt = c.loop-i-test.true in
    let within = c.requires.within in
    let (it, at) = item_there (row_items c.args.self.now) c.loop-i.i (omega (arith, lt, within)) in
    let same : c.weight_of-bytes.result
    ≡ weight_of it = subst (λ o. IfSome o
    (λ x. c.weight_of-bytes.result ≡ weight_of x)) at c.weight_of-bytes.ensures.weighs in
    let order = c.loop-i.auto.i in
    let small = c.weight_of-bytes.ensures.small in
    let sum = weight_more (row_items c.args.self.now) c.args.from c.loop-i.i it (omega arith) at in
    let now = c.loop-i.invariant.0 in
    let most = c.loop-i.invariant.1 in
    (omega (arith, sum, now, same), omega (arith, most, small, order))
