use Rattle.std.proofs.Common.{◌≡◌, map, take}
use Rattle.std.specs.Arc.{arc_value}
use Rattle.r4_patch.specs.Joining.{ids_of}
use Rattle.r4_patch.proofs.joining.sorted_ids.Given as goal

abbrev pub invariant-loop-cell : goal.invariant-loop-cell
invariant-loop-cell l = l.ids.items ≡ ids_of (map (λ cell. arc_value cell) (take l.cell-index l.items))
