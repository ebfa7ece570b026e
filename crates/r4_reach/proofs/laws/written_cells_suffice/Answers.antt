use Rattle.r4_reach.proofs.Enough.{enough}
use Rattle.r4_reach.proofs.laws.written_cells_suffice.Goals as goal

pub returns : goal.returns
returns g b e reads rs t root c ups a come h fits =
    enough b e reads rs h.quiet t root h.part h.low ups c a come h.stands h.node h.leads h.still h.asks fits
