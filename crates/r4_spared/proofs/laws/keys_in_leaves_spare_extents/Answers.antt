use Rattle.r4_build.specs.r4_reach.Touched.{body_on, edits_on}
use Rattle.r4_spared.proofs.Spared.{all_spared, asked_in_leaves}
use Rattle.r4_spared.proofs.laws.keys_in_leaves_spare_extents.Goals as goal

pub returns : goal.returns
returns g = record {
  edits = λ t root b e it accepted tails lie. all_spared t root b e it accepted tails lie;
  command = λ c s in_extents t root it accepted tails lie. (
    all_spared t root (body_on c s in_extents) (edits_on c s) it accepted tails lie,
    asked_in_leaves c s in_extents tails,
  );
}
