use Rattle.std.proofs.Common.{arith}
use Rattle.r4_base.proofs.Numbers.{number_is}
use Rattle.r4_base.proofs.bytes.get32.Goals as goal

pub returns : goal.returns
returns c = number_is 4 c.args.at c.read_u32.result c.args.b.now (λ k. let fits = c.type_inv.b k in omega (arith, fits)) c.read_u32.ensures
