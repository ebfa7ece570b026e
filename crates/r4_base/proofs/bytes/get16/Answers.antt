use Rattle.std.proofs.Common.{arith}
use Rattle.r4_base.proofs.Numbers.{number_is}
use Rattle.r4_base.proofs.bytes.get16.Goals as goal

pub returns : goal.returns
returns c = number_is 2 c.args.at c.read_u16.result c.args.b.now (λ k. let fits = c.type_inv.b k in omega (arith, fits)) c.read_u16.ensures
