use Rattle.std.proofs.Common.{◌≡◌}
use Rattle.r4_space_tests.proofs.spaces.place_near.Given as goal

abbrev pub invariant-loop-block : goal.invariant-loop-block
invariant-loop-block l = l.space.block_count ≡ l.initial.space.block_count
