use Rattle.std.proofs.Common.{sym, subst}
use Rattle.r4_outside.specs.Device.{TellsCrashes}
use Rattle.r4_outside.specs.Memory.{memory_state}
use Rattle.r4_outside.specs.declared.memory.MemoryDevice.{MemoryDevice}
use Rattle.r4_devices.proofs.Stopping.{begins_tells}
use Rattle.r4_stop_tests.proofs.stops.settles.Goals as goal

-- The device tells what a crash leaves, as it did before the stop.
pub crash-requires : goal.crash-requires
crash-requires g c =
    let begun = begins_tells _ _ c.in-Ok.ensures.begins c.in_ok-below.ensures in
    let told = c.run.ensures.crashes.1 begun in
    subst (λ (d : MemoryDevice). TellsCrashes (memory_state d)) (sym c.into_inner-dev.ensures.device) (c.into_inner-dev.ensures.tells.0 told)
