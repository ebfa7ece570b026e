use Rattle.std.proofs.Common.{arith, rules}
use Rattle.r4_base.proofs.Numbers.{pasted}
use Rattle.r4_base.proofs.bytes.put_bytes.Goals as goal

pub returns : goal.returns
returns c = pasted c.args.at _ c.args.b.now c.args.from.now c.copy_from_slice.new.self (omega arith) (search rules)
