use Rattle.r4_sets_rows.proofs.NeedsBodies.{stays_needed}
use Rattle.r4_sets_rows.proofs.needed.units_stay_in_their_cells.Goals as goal

pub returns : goal.returns
returns c = record { stays = stays_needed }
