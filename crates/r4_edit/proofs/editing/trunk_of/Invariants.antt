use Rattle.std.proofs.Common.{length, ◌-◌, ◌≡◌, ◌+◌, map}
use Rattle.std.specs.Prelude.{drop}
use Rattle.std.specs.Arc.{arc_value}
use Rattle.r4_edit.specs.CutBlocks.{trunk}
use Rattle.r4_edit.proofs.editing.trunk_of.Given as goal

abbrev pub invariant-loop-count : goal.invariant-loop-count
invariant-loop-count l = l.count + trunk (map arc_value (drop l.count l.path)) ≡ trunk (map arc_value l.path)

abbrev pub decreases-loop-count : goal.decreases-loop-count
decreases-loop-count l = length l.path - l.count
