use Rattle.r4_suited.proofs.Small.{cell_small, leaf_small}
use Rattle.r4_suited.proofs.laws.leaves_stay_small.Goals as goal

pub returns : goal.returns
returns g = record {
  units = λ c s in_extents n bytes rs lawful r small. leaf_small c s in_extents n bytes rs lawful r small;
  cell = λ c s in_extents x bytes rs lawful level stand le. cell_small c s in_extents x bytes rs lawful level stand le;
}
