use Rattle.r4_patch.proofs.Sets.{placed_all_tree}
use Rattle.r4_patch.proofs.laws.placing_all_keeps_a_tree.Goals as goal

pub returns : goal.returns
returns c = record { tree = placed_all_tree }
