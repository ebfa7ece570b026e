use Rattle.std.proofs.Common.{◌≡◌, map, take}
use Rattle.std.specs.Arc.{arc_value}
use Rattle.r4_extent_shrink.specs.r4_extent_growth.r4_measure.r4_patch.Following.{without}
use Rattle.r4_extent_shrink.specs.r4_extent_growth.r4_measure.r4_patch.Joining.{ids_of}
use Rattle.r4_extent_turned.proofs.turning.cells_after.Given as goal

abbrev pub invariant-loop-cell : goal.invariant-loop-cell
invariant-loop-cell l = map (λ c. arc_value c) l.after.items
    ≡ without (ids_of (map (λ c. arc_value c) l.fn.leaves)) (map (λ c. arc_value c) (take l.cell-index l.fn.cells))
