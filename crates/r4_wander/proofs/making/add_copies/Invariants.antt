use Rattle.std.proofs.Common.{◌≡◌, ◌++◌, map, take}
use Rattle.r4_wander.specs.Seen.{Copy}
use Rattle.r4_wander.proofs.making.add_copies.Given as goal

abbrev pub invariant-loop-copy : goal.invariant-loop-copy
invariant-loop-copy l = l.made.items ≡ l.fn.made.items ++ map (λ (w : Copy). (w.copy, w.block)) (take l.copy-index l.shared)
