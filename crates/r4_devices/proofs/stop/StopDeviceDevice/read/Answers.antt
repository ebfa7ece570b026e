use Rattle.std.proofs.Common.{◌<◌, sym, subst}
use Rattle.r4_devices.specs.Stop.{StopView}
use Rattle.r4_devices.proofs.Stopping.{pass_reads, kept_pass, idles_read, none_of}
use Rattle.r4_devices.proofs.stop.StopDeviceDevice.read.Goals as goal

pub read-requires : goal.read-requires
read-requires g c = subst (λ (v : StopView g.row.D.Denot). c.args.at.0 < (g.D.Device.state v.dev).blocks) (sym c.self.view_is) c.requires

pub invariant_of-self-2 : goal.invariant_of-self-2
invariant_of-self-2 g c = kept_pass _ _ _ _ _ _ _ (none_of _ c.in_default.not-Some) (idles_read _ _ _ _ _ c.read.ensures) c.self.invariant

pub returns-clause-reads : goal.returns-clause-reads
returns-clause-reads g c = rw (← c.self.view_is) (pass_reads _ _ _ _ _ _ _ (none_of _ c.in_default.not-Some) c.read.ensures)
