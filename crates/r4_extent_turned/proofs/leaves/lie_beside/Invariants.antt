use Rattle.std.proofs.Common.{◌≡◌, drop, map}
use Rattle.std.specs.Arc.{arc_value}
use Rattle.r4_base.specs.Key.{rank}
use Rattle.r4_extent_turned.specs.Suiting.{lie_beside}
use Rattle.r4_extent_turned.proofs.leaves.lie_beside.Given as goal

abbrev pub invariant-loop-cell : goal.invariant-loop-cell
invariant-loop-cell l = lie_beside (rank l.fn.from) (map (λ c. arc_value c) l.fn.cells)
    ≡ lie_beside (rank l.next) (map (λ c. arc_value c) (drop l.cell-index l.fn.cells))
