use Rattle.std.proofs.Common.{map}
use Rattle.std.specs.Arc.{arc_value}
use Rattle.r4_commit_testing.specs.Cells.{HaveBlocks}
use Rattle.r4_plan_tests.proofs.plans.many.Given as goal

abbrev pub invariant-loop-id : goal.invariant-loop-id
invariant-loop-id l = HaveBlocks 1024 (map (λ cell. arc_value cell) l.cells.items)
