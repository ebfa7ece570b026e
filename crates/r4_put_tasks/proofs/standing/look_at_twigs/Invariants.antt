use Rattle.std.proofs.Common.{drop, map}
use Rattle.std.specs.Arc.{arc_value}
use Rattle.r4_put_tasks.specs.Put.{TwigsMayStand}
use Rattle.r4_put_tasks.proofs.standing.look_at_twigs.Given as goal

abbrev pub invariant-loop-cell : goal.invariant-loop-cell
invariant-loop-cell l =
    TwigsMayStand (map (λ c. arc_value c) (drop l.cell-index l.fn.cells))
    → TwigsMayStand (map (λ c. arc_value c) l.fn.cells)
