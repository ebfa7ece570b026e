use Rattle.std.proofs.Common.{◌≡◌, ℕ, ◌<◌, length, take, get_or, true, false, not, ◌||◌, ◌&&◌}
use Rattle.r4_space.specs.Space.{is_claimed, claims_of}
use Rattle.r4_space.proofs.claims.give_back.Given as goal

abbrev pub invariant-loop-claim : goal.invariant-loop-claim
invariant-loop-claim l = record {
  size : length l.taken ≡ length l.initial.taken;
  each : (b : ℕ) → b < length l.initial.taken → get_or l.taken b true ≡ (get_or l.initial.taken b true && not (is_claimed (claims_of l.atom (take l.claim-index l.row)) b && not (get_or l.marked b false || get_or l.claimed b false)));
}
