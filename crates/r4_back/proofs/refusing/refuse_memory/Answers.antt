use Rattle.std.proofs.Common.{inr}
use Rattle.r4_back.proofs.Back.{out_there}
use Rattle.r4_back.proofs.refusing.refuse_memory.Goals as goal

pub returns-then-is_out : goal.returns-then-is_out
returns-then-is_out g c =
    let (out, there) = c.if-is_out.ensures in
    inr (out, there, c.refuse_back.ensures out (out_there c.args.core.now c.args.task.now out there))
