use Rattle.std.proofs.Common.{◌≡◌}
use Rattle.r4_plan_tests.proofs.plans.fill.Given as goal

abbrev pub invariant-loop-block : goal.invariant-loop-block
invariant-loop-block g l = l.space.block_count ≡ l.fn.space.block_count
