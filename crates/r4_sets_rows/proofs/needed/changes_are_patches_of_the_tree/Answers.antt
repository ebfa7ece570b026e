use Rattle.r4_sets_rows.proofs.NeedsChanges.{meets_needed, patch_needed}
use Rattle.r4_sets_rows.proofs.needed.changes_are_patches_of_the_tree.Goals as goal

pub returns : goal.returns
returns c = record { patch = patch_needed 0; meets = meets_needed 0 }
