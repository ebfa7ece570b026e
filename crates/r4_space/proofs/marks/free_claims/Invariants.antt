use Rattle.std.proofs.Common.{◌≡◌, ℕ, ◌+◌, ◌<◌, take, not, ◌||◌, ◌&&◌}
use Rattle.r4_base.specs.Bitmap.{is_fixed, is_used}
use Rattle.r4_space.specs.Space.{freed_by, is_claimed, up_to}
use Rattle.r4_space.proofs.marks.free_claims.Given as goal

abbrev pub invariant-loop-claim : goal.invariant-loop-claim
invariant-loop-claim l = record {
  front : take 4 l.block ≡ take 4 l.initial.block;
  bits : (i : ℕ) → i < 32736 → is_used l.block i ≡ (is_used l.initial.block i && (is_fixed l.blocks (l.first + i) || not (is_claimed (freed_by (up_to l.sealed l.atom) (take l.claim-index l.claims)) (l.first + i))));
}
