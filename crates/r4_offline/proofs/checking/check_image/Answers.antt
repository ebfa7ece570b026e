use Rattle.r4_replay.proofs.Idling.{idle_always}
use Rattle.r4_offline.proofs.Checked.{checked_done, checked_fault}
use Rattle.r4_offline.proofs.checking.check_image.Goals as goal

pub returns-in-Ok-clause-checks : goal.returns-in-Ok-clause-checks
returns-in-Ok-clause-checks g c = checked_done _ _ _ _ _ c.check.ensures.device c.tell_verdict.result.code c.in-Ok.verdict c.in-Ok.ensures.checks c.tell_verdict.ensures

pub returns-in-Ok-clause-any_moment : goal.returns-in-Ok-clause-any_moment
returns-in-Ok-clause-any_moment g c = idle_always _ _ c.check.ensures.device.goes c.check.ensures.device.idle.clock

pub returns-in-Err-clause-checks : goal.returns-in-Err-clause-checks
returns-in-Err-clause-checks g c = checked_fault _ _ _ _ _ c.check.ensures.device c.tell_fault.result.code c.in-Err.fault c.in-Err.ensures.checks c.tell_fault.ensures

pub returns-in-Err-clause-any_moment : goal.returns-in-Err-clause-any_moment
returns-in-Err-clause-any_moment g c = idle_always _ _ c.check.ensures.device.goes c.check.ensures.device.idle.clock
