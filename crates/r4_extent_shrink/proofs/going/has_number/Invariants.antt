use Rattle.std.proofs.Common.{◌≡◌, drop, map}
use Rattle.std.specs.Arc.{arc_value}
use Rattle.r4_extent_shrink.specs.Going.{has_number}
use Rattle.r4_extent_shrink.proofs.going.has_number.Given as goal

abbrev pub invariant-loop-cell : goal.invariant-loop-cell
invariant-loop-cell l = has_number (map (λ c. arc_value c) l.fn.cells) l.fn.id
    ≡ has_number (map (λ c. arc_value c) (drop l.cell-index l.fn.cells)) l.fn.id
