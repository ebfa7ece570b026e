use Rattle.r4_spared.proofs.FreshLeaves.{fresh_changes, fresh_keys, fresh_stand}
use Rattle.r4_spared.proofs.examples.fresh_volumes_have_leaves.Goals as goal

pub returns : goal.returns
returns g = record {
  cells = λ twig leaf is_twig is_leaf whole_twig whole_leaf.
      fresh_stand twig leaf is_twig is_leaf whole_twig whole_leaf;
  command = λ twig leaf mode is_twig is_leaf whole_twig whole_leaf.
      fresh_changes twig leaf is_twig is_leaf whole_twig whole_leaf mode;
  keys = λ mode. fresh_keys mode;
}
