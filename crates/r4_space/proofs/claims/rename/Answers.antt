use Rattle.std.proofs.Common.{arith}
use Rattle.r4_space.specs.Space.{renamed}
use Rattle.r4_space.proofs.ClaimLaws.{mapped_all}
use Rattle.r4_space.proofs.claims.rename.Goals as goal

pub returns : goal.returns
returns c = mapped_all (renamed c.args.kept c.args.gone) c.loop-claim.claims c.args.claims.now c.loop-claim.auto.claims (λ k d lt. c.loop-claim.invariant.done k d (omega arith))
