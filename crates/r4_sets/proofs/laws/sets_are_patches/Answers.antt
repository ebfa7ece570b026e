use Rattle.r4_sets.proofs.Patches.{meets_under, patch_under}
use Rattle.r4_sets.proofs.Patches.{empty_sealed, fused_patch, none_placed, none_root, patches_apart, placed_patch}
use Rattle.r4_sets.proofs.Patches.{placed_root}
use Rattle.r4_sets.proofs.laws.sets_are_patches.Goals as goal

pub returns : goal.returns
returns g = record {
  none = λ c. (none_placed c, none_root c);
  cells = placed_patch;
  root = placed_root;
  apart = patches_apart;
  fused = fused_patch;
  empty = empty_sealed;
  meets = λ w c a h. meets_under w c h a;
  patch = λ w c a h le. patch_under w c h a le;
}
