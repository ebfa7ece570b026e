use Rattle.r4_patch.proofs.PartCells.{cut_is_part, tree_is_part, tree_unnamed, whole_is_tree}
use Rattle.r4_patch.proofs.parts.trees_and_parts.Goals as goal

pub returns : goal.returns
returns c = record {
  tree = tree_is_part;
  kept = λ t root keep it has_root closed. cut_is_part t root it keep has_root closed;
  whole = whole_is_tree;
  meets = λ p t root it m. record { meets = m; unnamed = tree_unnamed t root it p m };
}
