use Rattle.r4_offline.proofs.Telling.{told_fault}
use Rattle.r4_offline.proofs.replaying.replay_image.Goals as goal

pub returns-in-Err-clause-replays : goal.returns-in-Err-clause-replays
returns-in-Err-clause-replays g c = told_fault _ _ _ _ c.tell_fault.result.code c.in-Err.fault c.in-Err.ensures.replayed c.tell_fault.ensures
