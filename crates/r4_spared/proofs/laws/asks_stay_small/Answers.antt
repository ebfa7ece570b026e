use Rattle.r4_spared.proofs.Small.{asks_few, command_asks_few, is_quiet}
use Rattle.r4_spared.proofs.laws.asks_stay_small.Goals as goal

pub returns : goal.returns
returns g = record {
  small = λ c s in_extents reads rs t root l i is. asks_few c s in_extents t root is reads rs l i;
  command = λ c s in_extents t root l i is. command_asks_few c s in_extents t root is l i;
  quiet = λ c s in_extents reads rs t root is low. is_quiet c s in_extents t root is reads rs low;
}
