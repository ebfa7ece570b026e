use Rattle.std.proofs.Common.{◌≡◌}
use Rattle.r4_bench.proofs.space.defer_each.Given as goal

abbrev pub invariant-loop-i : goal.invariant-loop-i
invariant-loop-i l = l.space.block_count ≡ 1048576
