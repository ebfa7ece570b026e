use Rattle.r4_sets.proofs.FilesAfter.{files_after, visible_after}
use Rattle.r4_sets.proofs.changes.files_stand_after.Goals as goal

pub returns : goal.returns
returns g = record { files = files_after; visible = visible_after }
