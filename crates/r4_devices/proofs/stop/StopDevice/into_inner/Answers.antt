use Rattle.r4_devices.proofs.Stopping.{tells_both}
use Rattle.r4_devices.proofs.stop.StopDevice.into_inner.Goals as goal

pub returns-clause-tells : goal.returns-clause-tells
returns-clause-tells g c = rw (← c.self.view_is) (tells_both _ _ _ _ _ _ c.self.invariant)
