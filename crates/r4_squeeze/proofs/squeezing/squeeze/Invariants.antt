use Rattle.std.proofs.Common.{◌≡◌, map, take}
use Rattle.std.specs.Arc.{arc_value}
use Rattle.r4_squeeze.proofs.squeezing.squeeze.Given as goal

abbrev pub invariant-loop-cell : goal.invariant-loop-cell
invariant-loop-cell l = map (λ c. arc_value c) l.old.items ≡ map (λ c. arc_value c) (take l.cell-index l.slum)
