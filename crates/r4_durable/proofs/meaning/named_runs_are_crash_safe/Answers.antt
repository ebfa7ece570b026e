use Rattle.r4_durable.proofs.Meant.{safe_trace}
use Rattle.r4_durable.proofs.meaning.named_runs_are_crash_safe.Goals as goal

pub returns : goal.returns
returns g c limit r trace legal named =
    safe_trace limit r trace legal (g.D.Device.state c.args.dev.now) named
