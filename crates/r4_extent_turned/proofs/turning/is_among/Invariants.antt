use Rattle.std.proofs.Common.{◌≡◌, drop, map}
use Rattle.std.specs.Arc.{arc_value}
use Rattle.r4_extent_shrink.specs.r4_extent_growth.r4_measure.r4_patch.Following.{is_among}
use Rattle.r4_extent_shrink.specs.r4_extent_growth.r4_measure.r4_patch.Joining.{ids_of}
use Rattle.r4_extent_turned.proofs.turning.is_among.Given as goal

abbrev pub invariant-loop-cell : goal.invariant-loop-cell
invariant-loop-cell l = is_among (ids_of (map (λ c. arc_value c) l.fn.cells)) l.fn.id
    ≡ is_among (ids_of (map (λ c. arc_value c) (drop l.cell-index l.fn.cells))) l.fn.id
