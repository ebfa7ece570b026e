use Rattle.std.proofs.Common.{◌≡◌, ℕ, length, take, get_or, false, not, ◌||◌, ◌&&◌}
use Rattle.r4_base.specs.Bitmap.{is_fixed}
use Rattle.r4_space.specs.Space.{is_claimed, claims_of}
use Rattle.r4_space.proofs.claims.unmark.Given as goal

abbrev pub invariant-loop-claim : goal.invariant-loop-claim
invariant-loop-claim l = record {
  size : length l.marked ≡ length l.initial.marked;
  each : (b : ℕ) → get_or l.marked b false ≡ (get_or l.initial.marked b false && (is_fixed (length l.initial.marked) b || not (is_claimed (claims_of l.atom (take l.claim-index l.claims)) b)));
}
