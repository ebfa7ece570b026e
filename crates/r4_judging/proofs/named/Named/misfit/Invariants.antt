use Rattle.std.proofs.Common.{map, take}
use Rattle.std.specs.Arc.{arc_value}
use Rattle.r4_judging.specs.Judging.{IsJudged, names_meant}
use Rattle.r4_judging.proofs.named.Named.misfit.Given as goal

abbrev pub invariant-loop-cell : goal.invariant-loop-cell
invariant-loop-cell l = IsJudged (names_meant l.self) (take l.cell-index (map (λ c. arc_value c) l.near)) l.found
