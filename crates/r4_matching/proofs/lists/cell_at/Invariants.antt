use Rattle.std.proofs.Common.{◌≡◌, drop, map}
use Rattle.std.specs.Arc.{arc_value}
use Rattle.r4_matching.specs.Matching.{cell_named}
use Rattle.r4_matching.proofs.lists.cell_at.Given as goal

abbrev pub invariant-loop-cell : goal.invariant-loop-cell
invariant-loop-cell l =
    cell_named l.node.0 (map (λ c. arc_value c) (drop l.cell-index l.cell-items))
    ≡ cell_named l.node.0 l.cells
