use Rattle.std.proofs.Common.{◌≡◌, drop, map}
use Rattle.std.specs.Arc.{arc_value}
use Rattle.std.specs.List.{list_any}
use Rattle.r4_content.specs.Held.{interval_of}
use Rattle.r4_extent_growth.specs.Lying.{has_all}
use Rattle.r4_extent_growth.proofs.lying.some_has_all.Given as goal

abbrev pub invariant-loop-cell : goal.invariant-loop-cell
invariant-loop-cell l = list_any (has_all (interval_of l.fn.cut)) (map (λ c. arc_value c) l.fn.cells)
    ≡ list_any (has_all (interval_of l.fn.cut)) (map (λ c. arc_value c) (drop l.cell-index l.fn.cells))
