use Rattle.std.proofs.Common.{◌≡◌, ◌<◌, ◌-◌, length}
use Rattle.r4_atoms.specs.Forest.{link_at, root_of}
use Rattle.r4_atoms.proofs.forest.root.Given as goal

abbrev pub invariant-loop-at : goal.invariant-loop-at
invariant-loop-at l = record { within : l.at < length l.links; same : root_of l.links l.at ≡ root_of l.links l.initial.at }

abbrev pub decreases-loop-at : goal.decreases-loop-at
decreases-loop-at l = length l.links - (link_at l.links l.at).size
