use Rattle.std.proofs.Common.{◌≡◌, drop}
use Rattle.r4_space.specs.Space.{is_claimed, claims_without}
use Rattle.r4_space.proofs.claims.is_others.Given as goal

abbrev pub invariant-loop-claim : goal.invariant-loop-claim
invariant-loop-claim l = is_claimed (claims_without l.atom (drop l.claim-index l.claims)) l.block ≡ is_claimed (claims_without l.atom l.claims) l.block
