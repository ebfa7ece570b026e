use Rattle.r4_summary.proofs.Blind.{same_end}
use Rattle.r4_summary.proofs.laws.bytes_are_not_asked.Goals as goal

pub returns : goal.returns
returns g = λ l c s h r. same_end l c s h r
