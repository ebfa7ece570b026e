use Rattle.std.proofs.Common.{arith}
use Rattle.r4_cde.proofs.Puts.{target_put, target_read}
use Rattle.r4_cde.proofs.put.put_target.Goals as goal

pub returns : goal.returns
returns c = record {
  bytes = target_put c.args.target.now c.args.at c.args.body.now c.put64.new.b c.put64-2.new.b c.put64-3.new.b c.requires c.put64.ensures c.put64-2.ensures c.put64-3.ensures;
  target = target_read c.args.target.now (omega arith) (omega arith) (omega arith);
}
