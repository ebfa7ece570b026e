use Rattle.std.proofs.Common.{◌≡◌, ℕ, ◌<◌, ◌≤◌, get_or}
use Rattle.r4_space.specs.declared.things.Claim.{Claim}
use Rattle.r4_space.specs.Space.{renamed}
use Rattle.r4_space.proofs.claims.rename.Given as goal

abbrev pub invariant-loop-claim : goal.invariant-loop-claim
invariant-loop-claim l = record {
  done : (k : ℕ) (d : Claim) → k < l.claim-index → get_or l.claims k d ≡ renamed l.kept l.gone (get_or l.initial.claims k d);
  rest : (k : ℕ) (d : Claim) → l.claim-index ≤ k → get_or l.claims k d ≡ get_or l.initial.claims k d;
}
