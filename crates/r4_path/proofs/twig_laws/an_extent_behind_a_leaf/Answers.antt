use Rattle.r4_path.proofs.ExtentBack.{change_back}
use Rattle.r4_path.proofs.ExtentChange.{all_sound, small_change}
use Rattle.r4_path.proofs.twig_laws.an_extent_behind_a_leaf.Goals as goal

pub returns : goal.returns
returns c = record { change = small_change; back = change_back; sound = all_sound }
