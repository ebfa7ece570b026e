use Rattle.r4_base.proofs.Numbers.{number_written}
use Rattle.r4_base.proofs.bytes.put32.Goals as goal

pub returns : goal.returns
returns c = number_written 4 c.args.at c.args.v c.args.b.now c.write_u32.new.buf c.requires c.write_u32.ensures
