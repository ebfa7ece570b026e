use Rattle.r4_commit.proofs.Bounds.{bounded}
use Rattle.r4_commit.proofs.laws.commits_are_bounded.Goals as goal

pub returns : goal.returns
returns c = bounded
