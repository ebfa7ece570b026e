use Rattle.r4_wander.proofs.Boundary.{kept_without, kept_with}
use Rattle.r4_wander.proofs.laws.commit_keeps_blocks.Goals as goal

pub returns : goal.returns
returns c = record { without = kept_without; with_it = kept_with }
