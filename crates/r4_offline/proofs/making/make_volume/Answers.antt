use Rattle.r4_offline.proofs.MkfsTold.{told_fault}
use Rattle.r4_offline.proofs.making.make_volume.Goals as goal

pub returns-in-Err-clause-makes : goal.returns-in-Err-clause-makes
returns-in-Err-clause-makes g c = told_fault c.args.label.now _ _ _ _ c.tell_fault.result.code c.in-Err.fault c.in-Err.ensures.answers c.tell_fault.ensures
