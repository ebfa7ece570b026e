use Rattle.r4_space.proofs.UsedLaws.{placed_fewer, held_fewer, deferred_used}
use Rattle.r4_space.proofs.laws.used_law.Goals as goal

pub returns : goal.returns
returns c = record { placed = placed_fewer; held = held_fewer; deferred = λ s atom b k lt. deferred_used s atom b k }
