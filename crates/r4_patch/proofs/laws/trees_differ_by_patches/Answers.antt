use Rattle.r4_patch.proofs.Converse.{patch_from_trees}
use Rattle.r4_patch.proofs.laws.trees_differ_by_patches.Goals as goal

pub returns : goal.returns
returns c = record { patch = patch_from_trees }
