use Rattle.std.proofs.Common.{◌≡◌, ℕ, ◌<◌, length, take, get_or, true, false, ◌||◌}
use Rattle.r4_space.proofs.claims.take_marked.Given as goal

abbrev pub invariant-loop-b : goal.invariant-loop-b
invariant-loop-b l = record {
  size : length l.taken ≡ length l.initial.taken;
  each : (k : ℕ) → k < length l.initial.taken → get_or l.taken k true ≡ (get_or l.initial.taken k true || get_or (take l.b l.marked) k false);
}
