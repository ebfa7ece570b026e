use Rattle.r4_replay.proofs.Idling.{idle_always}
use Rattle.r4_offline.proofs.Listed.{listed_done, listed_fault}
use Rattle.r4_offline.proofs.listing.print_listing.Goals as goal

pub returns-in-Ok-clause-lists : goal.returns-in-Ok-clause-lists
returns-in-Ok-clause-lists g c = listed_done _ _ _ _ _ (g.K.Sink.state c.list.new.out) c.list.ensures.device c.in-Ok.field-0 c.in-Ok.ensures.answers

pub returns-in-Ok-clause-any_moment : goal.returns-in-Ok-clause-any_moment
returns-in-Ok-clause-any_moment g c = idle_always _ _ c.list.ensures.device.goes c.list.ensures.device.idle.clock

pub returns-in-Err-clause-lists : goal.returns-in-Err-clause-lists
returns-in-Err-clause-lists g c = listed_fault _ _ _ _ _ _ c.list.ensures.device c.tell_fault.result.code c.in-Err.fault c.in-Err.ensures.answers c.tell_fault.ensures

pub returns-in-Err-clause-any_moment : goal.returns-in-Err-clause-any_moment
returns-in-Err-clause-any_moment g c = idle_always _ _ c.list.ensures.device.goes c.list.ensures.device.idle.clock
