use Rattle.std.proofs.Common.{arith}
use Rattle.r4_check_objects.proofs.Summed.{adds_under}
use Rattle.r4_check_objects.proofs.sums.add_under.Goals as goal

pub returns : goal.returns
returns c =
    let before = c.get.ensures in
    let sum = c.saturating_add-sum.ensures in
    adds_under c.args.id c.args.more c.saturating_add-sum.result c.args.sums.now c.put.new.self (omega (arith, before, sum)) c.in_ok-put.ensures
