use Rattle.r4_list.proofs.LinesLeft.{met_dir}
use Rattle.r4_list.proofs.WalkSteps.{new_dir, opened}
use Rattle.r4_list.proofs.laws.walk_meets_directory.Goals as goal

pub returns : goal.returns
returns c = record {
  new = λ n image m has start f fs printed w k name o a at is dir. new_dir m start f fs printed w n image has k name o a at is dir;
  lines = met_dir;
  walk = λ n image m has start f fs printed next w k name o a path at is dir too. opened m start f fs printed w n image has k name o a at is dir path next too;
}
