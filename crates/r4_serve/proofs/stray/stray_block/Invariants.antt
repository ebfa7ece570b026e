use Rattle.std.proofs.Common.{map, take}
use Rattle.std.specs.Arc.{arc_value}
use Rattle.r4_serve.specs.Serving.{NoneStray, parts_seen}
use Rattle.r4_serve.proofs.stray.stray_block.Given as goal

abbrev pub invariant-loop-cell : goal.invariant-loop-cell
invariant-loop-cell l =
    NoneStray (parts_seen l.fn.parts) (map (λ c. arc_value c) (take l.cell-index l.fn.cells))
