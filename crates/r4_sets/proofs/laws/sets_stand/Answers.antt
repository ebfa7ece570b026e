use Rattle.r4_sets.proofs.Applied.{memory_stands}
use Rattle.r4_sets.proofs.Gathered.{under_stands}
use Rattle.r4_sets.proofs.Patches.{chooses_alike}
use Rattle.r4_sets.proofs.laws.sets_stand.Goals as goal

pub returns : goal.returns
returns g = record {
  set = λ w c h. h.each;
  alone = λ w c h. h.committed;
  under = under_stands;
  memory = memory_stands;
  alike = λ w start trace s u t root. chooses_alike w start s u trace t root;
}
