use Rattle.std.proofs.Common.{◌≡◌, drop, map}
use Rattle.std.specs.Arc.{arc_value}
use Rattle.std.specs.List.{list_all}
use Rattle.r4_extent_growth.specs.Lying.{is_whole}
use Rattle.r4_extent_growth.proofs.lying.are_whole.Given as goal

abbrev pub invariant-loop-cell : goal.invariant-loop-cell
invariant-loop-cell l = list_all is_whole (map (λ c. arc_value c) l.fn.cells)
    ≡ list_all is_whole (map (λ c. arc_value c) (drop l.cell-index l.fn.cells))
