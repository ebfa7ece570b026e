use Rattle.r4_commit.proofs.KeptVolumes.{blocks_by_part, commits, volume_by_part}
use Rattle.r4_commit.proofs.laws.commit_settles_by_plan.Goals as goal

pub returns : goal.returns
returns c = record { commits = commits; image = volume_by_part; keeps_blocks = blocks_by_part }
