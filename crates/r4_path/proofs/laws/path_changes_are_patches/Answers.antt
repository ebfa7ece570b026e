use Rattle.r4_path.proofs.PathPatch.{change_is, part_meets}
use Rattle.r4_path.proofs.laws.path_changes_are_patches.Goals as goal

pub returns : goal.returns
returns c = record { change = change_is; meets = part_meets }
