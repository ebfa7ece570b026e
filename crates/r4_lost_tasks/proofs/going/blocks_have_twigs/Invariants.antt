use Rattle.std.proofs.Common.{◌≡◌, drop, map}
use Rattle.std.specs.Arc.{arc_value}
use Rattle.r4_base.specs.Key.{rank}
use Rattle.r4_lost_tasks.specs.Going.{goes_on}
use Rattle.r4_lost_tasks.proofs.going.blocks_have_twigs.Given as goal

abbrev pub invariant-loop-cell : goal.invariant-loop-cell
invariant-loop-cell l = goes_on (rank l.at) (map (λ c. arc_value c) (drop l.cell-index l.fn.cells))
    ≡ goes_on (rank l.initial.at) (map (λ c. arc_value c) l.fn.cells)
