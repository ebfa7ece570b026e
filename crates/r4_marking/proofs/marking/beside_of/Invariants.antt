use Rattle.std.proofs.Common.{map, take}
use Rattle.std.specs.Arc.{arc_value}
use Rattle.r4_marking.specs.Marks.{AreBeside}
use Rattle.r4_marking.proofs.marking.beside_of.Given as goal

abbrev pub invariant-loop-cell : goal.invariant-loop-cell
invariant-loop-cell g l = AreBeside (g.D.Demands.demand l.demands) (take l.cell-index (map (λ c. arc_value c) l.met)) l.beside.items
