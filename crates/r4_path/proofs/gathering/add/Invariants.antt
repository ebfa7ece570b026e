use Rattle.std.proofs.Common.{◌≡◌, ◌++◌, map, take}
use Rattle.std.specs.Arc.{arc_value}
use Rattle.r4_path.proofs.gathering.add.Given as goal

abbrev pub invariant-loop-cell : goal.invariant-loop-cell
invariant-loop-cell l = map (λ x. arc_value x) l.cells.items ≡ map (λ x. arc_value x) l.initial.cells.items
    ++ map (λ x. arc_value x) (take l.cell-index l.more)
