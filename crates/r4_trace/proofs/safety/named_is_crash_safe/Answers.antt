use Rattle.r4_trace.proofs.Safely.{crash_safe}
use Rattle.r4_trace.proofs.safety.named_is_crash_safe.Goals as goal

pub returns : goal.returns
returns g c w start clock trace legal named =
    crash_safe g.M.Images.means w start clock trace legal (g.D.Device.state c.args.dev.now) named
