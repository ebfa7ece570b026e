use Rattle.std.proofs.Common.{◌≡◌, map, take}
use Rattle.std.specs.Arc.{arc_value}
use Rattle.r4_patch.specs.Joining.{ids_of}
use Rattle.r4_squeeze.specs.Packing.{numbers}
use Rattle.r4_squeeze.proofs.numbering.numbers_of.Given as goal

abbrev pub invariant-loop-cell : goal.invariant-loop-cell
invariant-loop-cell l = numbers l.ids.items ≡ ids_of (map (λ c. arc_value c) (take l.cell-index l.cells))
