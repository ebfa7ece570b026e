use Rattle.r4_reaching.proofs.Standing.{all_touched}
use Rattle.r4_reaching.proofs.laws.touched_cells_were_met.Goals as goal

pub returns : goal.returns
returns g c = λ d t root known s h stays. all_touched t root known s h d stays
