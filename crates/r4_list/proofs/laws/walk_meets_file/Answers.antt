use Rattle.r4_list.proofs.LinesLeft.{met_file}
use Rattle.r4_list.proofs.WalkObjects.{named_object}
use Rattle.r4_list.proofs.WalkSteps.{file_passed}
use Rattle.r4_list.proofs.laws.walk_meets_file.Goals as goal

pub returns : goal.returns
returns c = record { object = named_object; lines = met_file; walk = file_passed }
