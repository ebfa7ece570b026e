use Rattle.std.proofs.Common.{sym}
use Rattle.r4_flush.proofs.Spelled.{pointer_long}
use Rattle.r4_flush.proofs.bodies.rename_pointer.Goals as goal

pub put_pointer-requires : goal.put_pointer-requires
put_pointer-requires c = pointer_long c.args.body.now _ (sym c.in-Some.ensures.value)
