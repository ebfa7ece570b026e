use Rattle.r4_patch.proofs.SecondRoot.{second_free, second_has_old, second_is_no_tree, second_is_patch, small_is_tree}
use Rattle.r4_patch.proofs.laws.root_has_to_be_old.Goals as goal

pub returns : goal.returns
returns c = record { patch = second_is_patch; old = second_has_old; free = second_free; tree = small_is_tree; broken = second_is_no_tree }
