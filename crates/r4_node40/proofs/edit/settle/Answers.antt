use Rattle.std.proofs.Common.{arith}
use Rattle.r4_node40.proofs.Settling.{anew}
use Rattle.r4_node40.proofs.edit.settle.Goals as goal

pub returns-then-get16-eq0 : goal.returns-then-get16-eq0
returns-then-get16-eq0 c = anew c.args.b.now c.put16.new.b c.put16-then-get16-eq0.new.b c.requires (omega arith) c.put16.ensures c.put16-then-get16-eq0.ensures
