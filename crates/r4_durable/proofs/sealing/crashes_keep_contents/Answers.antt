use Rattle.r4_durable.proofs.Crashed.{durable, found_in_part, in_part}
use Rattle.r4_durable.proofs.sealing.crashes_keep_contents.Goals as goal

pub returns-clause-parts : goal.returns-clause-parts
returns-clause-parts g = λ limit next_id job n x small h.
    in_part g.on_disk_law.ensures limit small next_id job n x h

pub returns-clause-found : goal.returns-clause-found
returns-clause-found g = λ limit next_id job b x small h was will lost.
    found_in_part g.on_disk_law.ensures limit small b next_id job x h was will lost

pub returns-clause-durable : goal.returns-clause-durable
returns-clause-durable g = λ limit next_id job b x small h was will lost.
    durable g.on_disk_law.ensures limit small b next_id job x h was will lost
