use Rattle.r4_patch.proofs.Placed.{placed_tree}
use Rattle.r4_patch.proofs.Sets.{units_from, units_to}
use Rattle.r4_patch.proofs.laws.placing_keeps_a_tree.Goals as goal

pub returns : goal.returns
returns c = record {
  tree = placed_tree;
  units = λ p t root k v m. (units_from p t k v, units_to p t root k v m);
}
