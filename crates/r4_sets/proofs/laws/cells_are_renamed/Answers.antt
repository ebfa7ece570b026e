use Rattle.r4_sets.proofs.Renamed.{renamed_sets, renamed_tree, renamed_units}
use Rattle.r4_sets.proofs.laws.cells_are_renamed.Goals as goal

pub returns : goal.returns
returns g = record {
  tree = λ f g t u root r it. renamed_tree f g t u r root it;
  units = λ f g t u k r. renamed_units f g t u r k;
  sets = λ w c f g under memory h r. renamed_sets w c h f g under memory r;
}
