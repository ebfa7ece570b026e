use Rattle.std.proofs.Common.{◌≡◌, map, take}
use Rattle.std.specs.Arc.{arc_value}
use Rattle.r4_history.specs.Held.{names_of}
use Rattle.r4_serve.proofs.need.nodes_of.Given as goal

abbrev pub invariant-loop-cell : goal.invariant-loop-cell
invariant-loop-cell l = l.nodes.items ≡ names_of (map (λ c. arc_value c) (take l.cell-index l.cells))
