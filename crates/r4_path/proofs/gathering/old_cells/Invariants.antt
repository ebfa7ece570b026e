use Rattle.std.proofs.Common.{◌≡◌, map, take}
use Rattle.std.specs.Arc.{arc_value}
use Rattle.r4_path.specs.Levels.{step_of}
use Rattle.r4_path.specs.Steps.{olds}
use Rattle.r4_path.proofs.gathering.old_cells.Given as goal

abbrev pub invariant-loop-level : goal.invariant-loop-level
invariant-loop-level l = map (λ x. arc_value x) l.cells.items ≡ olds (map step_of (take l.level-index l.levels))
