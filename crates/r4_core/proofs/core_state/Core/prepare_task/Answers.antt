use Rattle.r4_core.proofs.Holding.{keeps_holds}
use Rattle.r4_core.proofs.core_state.Core.prepare_task.Goals as goal

pub invariant_of-self : goal.invariant_of-self
invariant_of-self g c = keeps_holds _ _ _ c.self.invariant c.prepare.new.self c.prepare.ensures.same
