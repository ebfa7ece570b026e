use Rattle.std.proofs.Common.{◌≡◌, map, take}
use Rattle.std.specs.Arc.{arc_value}
use Rattle.std.specs.List.{filter}
use Rattle.r4_extent_turned.specs.Finding.{is_leaf_of}
use Rattle.r4_extent_turned.proofs.finding.leaves_among.Given as goal

abbrev pub invariant-loop-cell : goal.invariant-loop-cell
invariant-loop-cell l = map (λ c. arc_value c) l.leaves.items
    ≡ filter (is_leaf_of l.fn.body) (map (λ c. arc_value c) (take l.cell-index l.fn.cells))
