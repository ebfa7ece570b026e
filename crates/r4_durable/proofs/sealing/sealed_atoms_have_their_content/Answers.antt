use Rattle.r4_durable.proofs.SealedContent.{all_sets, lost_is, new_content, ok, replies_now}
use Rattle.r4_durable.proofs.sealing.sealed_atoms_have_their_content.Goals as goal

pub returns-clause-sets : goal.returns-clause-sets
returns-clause-sets g = λ limit next_id job n x small h.
    all_sets g.on_disk_law.ensures limit small next_id job n x h

pub returns-clause-commits : goal.returns-clause-commits
returns-clause-commits g = λ limit next_id job n x small h. ok g.on_disk_law.ensures limit small next_id job n x h

pub returns-clause-content : goal.returns-clause-content
returns-clause-content g = λ limit next_id job n x small h. (
  new_content g.on_disk_law.ensures limit small next_id job n x h,
  lost_is g.on_disk_law.ensures limit small next_id job n x h,
)

pub returns-clause-replies : goal.returns-clause-replies
returns-clause-replies g = λ limit next_id job n x small h.
    replies_now g.on_disk_law.ensures limit small next_id job n x h
