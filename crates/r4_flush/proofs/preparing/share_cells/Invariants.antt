use Rattle.std.proofs.Common.{◌≡◌, map, take}
use Rattle.std.specs.Arc.{arc_value}
use Rattle.r4_flush.specs.Prepared.{cells_of}
use Rattle.r4_flush.proofs.preparing.share_cells.Given as goal

abbrev pub invariant-loop-one : goal.invariant-loop-one
invariant-loop-one l = map (λ c. arc_value c) l.cells.items ≡ cells_of (take l.one-index l.renamed)
