use Rattle.r4_sealed.proofs.Kept.{ended}
use Rattle.r4_sealed.proofs.Resting.{rests}
use Rattle.r4_sealed.proofs.contents.commits_come_to_rest.Goals as goal

pub returns : goal.returns
returns g = record { ends = ended; rest = rests }
