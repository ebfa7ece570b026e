use Rattle.r4_devices.specs.Picks.{IsPickedTo}
use Rattle.r4_devices.proofs.picks.picks.Given as goal

abbrev pub invariant-loop-s : goal.invariant-loop-s
invariant-loop-s l = IsPickedTo l.s l.skip l.number l.mask l.last
