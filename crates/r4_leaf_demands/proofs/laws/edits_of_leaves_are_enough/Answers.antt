use Rattle.r4_leaf_demands.proofs.Alike.{asks_as, marks_same}
use Rattle.r4_leaf_demands.proofs.Weighed.{sound}
use Rattle.r4_leaf_demands.proofs.laws.edits_of_leaves_are_enough.Goals as goal

pub returns : goal.returns
returns g = record {
  marks = λ b e reads met root rs ws rises h m. marks_same b e reads met root h rs ws rises m;
  asks = λ b e reads met root c h names at. asks_as b e reads met root h names c at;
  fits = λ c some whole stands. (sound c some whole stands).fits;
}
