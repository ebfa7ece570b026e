use Rattle.std.proofs.Common.{inr}
use Rattle.r4_back.proofs.Back.{out_there}
use Rattle.r4_back.proofs.giving.give_back.Goals as goal

pub returns-then-is_out : goal.returns-then-is_out
returns-then-is_out g c =
    let (out, there) = c.if-is_out.ensures in
    let is = out_there c.args.core.now c.args.task.now out there in
    inr (out, there, c.take_back.ensures out is.is_out)
