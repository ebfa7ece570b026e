use Rattle.r4_outside.proofs.Moments.{goes_both}
use Rattle.r4_origin.proofs.from_start.FromStartDevice.write.Goals as goal

pub invariant_of-self : goal.invariant_of-self
invariant_of-self g c = goes_both _ _ _ c.self.invariant c.write.ensures.goes
