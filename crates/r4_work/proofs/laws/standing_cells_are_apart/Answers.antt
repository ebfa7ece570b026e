use Rattle.r4_work.proofs.InPlace.{standing_is}
use Rattle.r4_work.proofs.Ranges.{standing_apart}
use Rattle.r4_work.proofs.laws.standing_cells_are_apart.Goals as goal

pub returns : goal.returns
returns c = record {
  stand = λ t r f w x is at. standing_is t r f w is x at;
  apart = λ t r f w is. standing_apart t r f w is;
}
