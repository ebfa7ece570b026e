use Rattle.std.proofs.Common.{subst}
use Rattle.r4_apply.specs.r4_next.Taking.{Takes}
use Rattle.r4_shared.proofs.Steps.{flush_asked, next_flush}
use Rattle.r4_shared.proofs.stepping.next_step.Goals as goal

pub flush_next-requires-clause-asked : goal.flush_next-requires-clause-asked
flush_next-requires-clause-asked g c κs within =
    let old = c.args.core.now in
    let mid = c.take.new.core in
    let d = g.D.Device.state in
    flush_asked d old mid c.in-Flush.atom (subst (Takes d old mid) c.in-Flush.is c.in_ok-task.ensures.ok)

pub returns-in-Flush-clause-ok : goal.returns-in-Flush-clause-ok
returns-in-Flush-clause-ok g c =
    let old = c.args.core.now in
    let mid = c.take.new.core in
    let d = g.D.Device.state in
    next_flush d old mid c.flush_next.new.core c.in-Flush.atom c.flush_next.result
    (subst (Takes d old mid) c.in-Flush.is c.in_ok-task.ensures.ok) c.flush_next.ensures
