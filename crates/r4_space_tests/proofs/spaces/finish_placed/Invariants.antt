use Rattle.std.proofs.Common.{◌≡◌, []}
use Rattle.r4_space_tests.proofs.spaces.finish_placed.Given as goal

abbrev pub invariant-loop : goal.invariant-loop
invariant-loop l = (l.space.sealed ≡ []) × (l.space.block_count ≡ l.initial.space.block_count)
