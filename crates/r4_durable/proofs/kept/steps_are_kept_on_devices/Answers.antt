use Rattle.r4_durable.proofs.Steps.{device_after}
use Rattle.r4_durable.proofs.kept.steps_are_kept_on_devices.Goals as goal

pub returns : goal.returns
returns g c limit b job s now space later more t kept goes alike lawful session deferred =
    device_after limit b job s now space later more t (g.D.Device.state c.args.dev.now) kept goes alike lawful session
    deferred
