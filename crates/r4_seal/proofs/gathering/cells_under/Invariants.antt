use Rattle.std.proofs.Common.{◌≡◌, map, take}
use Rattle.std.specs.Arc.{arc_value}
use Rattle.r4_seal.specs.Cells.{cells_under}
use Rattle.r4_seal.proofs.gathering.cells_under.Given as goal

abbrev pub invariant-loop-node : goal.invariant-loop-node
invariant-loop-node l = map (λ c. arc_value c) l.cells.items ≡ cells_under l.buffer (take l.node-index l.nodes)
