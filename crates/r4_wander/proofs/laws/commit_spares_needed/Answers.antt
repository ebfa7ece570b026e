use Rattle.r4_wander.proofs.Boundary.{free_of, home_original}
use Rattle.r4_wander.proofs.laws.commit_spares_needed.Goals as goal

pub returns : goal.returns
returns c = record { free = free_of; homes = home_original }
