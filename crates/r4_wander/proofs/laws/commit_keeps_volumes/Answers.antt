use Rattle.r4_wander.proofs.Boundary.{volume_without, volume_with}
use Rattle.r4_wander.proofs.laws.commit_keeps_volumes.Goals as goal

pub returns : goal.returns
returns c = record { without = volume_without; with_it = volume_with }
