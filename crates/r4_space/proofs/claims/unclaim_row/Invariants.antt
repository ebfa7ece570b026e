use Rattle.std.proofs.Common.{◌≡◌, ℕ, ◌<◌, length, take, get_or, false, not, ◌||◌, ◌&&◌}
use Rattle.r4_space.specs.Space.{is_claimed, claims_of, claims_without}
use Rattle.r4_space.proofs.claims.unclaim_row.Given as goal

abbrev pub invariant-loop-claim : goal.invariant-loop-claim
invariant-loop-claim l = record {
  size : length l.claimed ≡ length l.initial.claimed;
  each : (b : ℕ) → b < length l.initial.claimed → get_or l.claimed b false ≡ (get_or l.initial.claimed b false && not (is_claimed (claims_of l.atom (take l.claim-index l.row)) b && not (get_or l.twice b false && (is_claimed (claims_without l.atom l.held) b || is_claimed (claims_without l.atom l.deferred) b))));
}
