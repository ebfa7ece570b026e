use Rattle.r4_spared.proofs.Found.{found_good, volume_good}
use Rattle.r4_spared.proofs.laws.objects_are_found_good.Goals as goal

pub returns : goal.returns
returns g = record {
  seen = λ c s m t root seen it units objects. found_good c s m t root seen it units objects;
  volume = λ super m lawful ids. volume_good super m lawful ids;
}
