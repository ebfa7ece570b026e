use Rattle.std.proofs.Common.{refl}
use Rattle.r4_cde.proofs.Puts.{name_put}
use Rattle.r4_cde.proofs.put.put_name.Goals as goal

pub returns : goal.returns
returns c = name_put c.args.at c.args.name.now c.args.body.now c.put_bytes.new.b _ c.requires c.put_bytes.ensures refl
