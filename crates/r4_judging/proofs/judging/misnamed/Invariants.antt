use Rattle.std.proofs.Common.{map, take}
use Rattle.std.specs.Prelude.{All}
use Rattle.std.specs.Arc.{arc_value}
use Rattle.r4_judging.specs.Judging.{IsJudged, IsSound, all_names}
use Rattle.r4_judging.proofs.judging.misnamed.Given as goal

abbrev pub invariant-loop-cell : goal.invariant-loop-cell
invariant-loop-cell l = IsJudged (all_names (take l.cell-index (map (λ c. arc_value c) l.met)))
    (map (λ c. arc_value c) l.cells.items) l.found
    × All IsSound (take l.cell-index (map (λ c. arc_value c) l.met))
