use Rattle.r4_wander.proofs.Encoding.{has_homes}
use Rattle.r4_wander.proofs.Ending.{same_base, settles_by, logged, footed}
use Rattle.r4_wander.proofs.laws.commit_settles.Goals as goal

pub returns : goal.returns
returns c = record {
  parts = λ n i base image chain p plan safe code order lt fin torn. settles_by n base chain p plan safe order code i image lt fin torn;
  logged = λ n base chain p plan safe code order. logged n base chain p plan safe order code;
  footed = λ n base chain p plan safe code order fin. footed n base chain p plan safe order code fin;
  alone = λ n base p safe code. has_homes n base p safe code;
  order = λ n i base chain p plan safe order. same_base n base chain p plan safe order i;
}
