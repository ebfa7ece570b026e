use Rattle.std.proofs.Common.{◌≡◌, map, take}
use Rattle.r4_wander.specs.Seen.{Copy}
use Rattle.r4_wander.proofs.making.make_homes.Given as goal

abbrev pub invariant-loop-copy : goal.invariant-loop-copy
invariant-loop-copy l = l.made.items ≡ map (λ (w : Copy). (w.original, w.block)) (take l.copy-index l.shared)
