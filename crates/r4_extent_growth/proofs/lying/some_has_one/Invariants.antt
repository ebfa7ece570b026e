use Rattle.std.proofs.Common.{◌≡◌, drop, map}
use Rattle.std.specs.Arc.{arc_value}
use Rattle.std.specs.List.{list_any}
use Rattle.r4_base.specs.Key.{rank}
use Rattle.r4_extent_growth.specs.Lying.{has_one}
use Rattle.r4_extent_growth.proofs.lying.some_has_one.Given as goal

abbrev pub invariant-loop-cell : goal.invariant-loop-cell
invariant-loop-cell l = list_any (has_one (rank l.fn.key)) (map (λ c. arc_value c) l.fn.cells)
    ≡ list_any (has_one (rank l.fn.key)) (map (λ c. arc_value c) (drop l.cell-index l.fn.cells))
