use Rattle.r4_base.proofs.Numbers.{moved_is}
use Rattle.r4_base.proofs.bytes.move_bytes.Goals as goal

pub returns : goal.returns
returns c = moved_is c.args.b.now c.copy_within.new.self c.args.from c.args.to c.args.at c.requires.order c.requires.within c.copy_within.ensures.after
