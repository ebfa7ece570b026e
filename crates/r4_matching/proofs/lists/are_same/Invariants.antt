use Rattle.std.proofs.Common.{◌≡◌, map, take}
use Rattle.std.specs.Arc.{arc_value}
use Rattle.r4_matching.proofs.lists.are_same.Given as goal

abbrev pub invariant-loop-i : goal.invariant-loop-i
invariant-loop-i l = map (λ c. arc_value c) (take l.i l.cells) ≡ map (λ c. arc_value c) (take l.i l.others)
